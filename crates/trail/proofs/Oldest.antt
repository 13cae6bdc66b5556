-- The records one after another, from the oldest on.
use Rattle.std.proofs.Common.{◌≡◌, ℕ, ◌<◌, ◌≤◌, cond, eqb, List, [], ◌∷◌, ◌++◌, length, drop, sym, refl, ap, ◌∙◌, arith, length-append}
use Rattle.std.specs.List.{fold, list_any}
use Rattle.std.proofs.lemmas.List.{append_assoc, append-nil, drop_at}
use Rattle.std.proofs.lemmas.List.Folds.{list_any-append}
use Rattle.std.proofs.lemmas.List.Sums.{fold-append}
use Rattle.trail.specs.Notes.{Note, bytes_of_note, bytes_of, record_length, room_of}
use Rattle.trail.specs.Decoding.{word, notes_of}
use Rattle.trail.specs.Heads.{head_of, heads_of}
use Rattle.trail.specs.Questions.{step, traced, merged}
use Rattle.trail.specs.declared.head.Head.{Head}
use Rattle.trail.proofs.Decoded.{length_of_note, holds_of}
use Rattle.trail.proofs.Settled.{HeadAt, head_words}

bytes_of_older : (ns : List Note) (n : Note) → bytes_of (ns ++ (n ∷ [])) ≡ bytes_of_note n ++ bytes_of ns
bytes_of_older [] n = sym (append-nil (bytes_of_note n))
bytes_of_older (m ∷ ns) n = ap (λ l. l ++ bytes_of_note m) (bytes_of_older ns n) ∙ append_assoc (bytes_of_note n) (bytes_of ns) (bytes_of_note m)

heads_of_older : (ns : List Note) (n : Note) → heads_of (ns ++ (n ∷ [])) ≡ head_of n ∷ heads_of ns
heads_of_older [] n = refl
heads_of_older (m ∷ ns) n = ap (λ l. l ++ (head_of m ∷ [])) (heads_of_older ns n)

-- the fold over the heads, the oldest first, is the walk of the definition
pub traced_by_heads : (ns : List Note) (w : ℕ) → fold (λ at h. cond (eqb at h.v) h.u at) w (heads_of ns) ≡ traced ns w
traced_by_heads [] w = refl
traced_by_heads (n ∷ ns) w = fold-append _ w (heads_of ns) (head_of n ∷ []) ∙ ap (step n) (traced_by_heads ns w)

pub merged_by_heads : (ns : List Note) (w : ℕ) → list_any (λ h. eqb w h.v) (heads_of ns) ≡ merged ns w
merged_by_heads [] w = refl
merged_by_heads (n ∷ ns) w =
    let ih = merged_by_heads ns w in
    list_any-append (λ h. eqb w h.v) (heads_of ns) (head_of n ∷ []) ∙ (grind arith)

-- notes with the oldest set apart
record Parted (all : List Note) : Type 0 where
  pub n : Note
  pub ns : List Note
  pub is : all ≡ ns ++ (n ∷ [])

parted : (m : Note) (ms : List Note) → Parted (m ∷ ms)
parted m [] = record { n = m; ns = []; is = refl }
parted m (x ∷ ms) = let p = parted x ms in record { n = p.n; ns = m ∷ p.ns; is = ap (λ l. m ∷ l) p.is }

-- the oldest of these records
pub record Oldest (bs : List ℕ) : Type 0 where
  pub n : Note
  pub ns : List Note
  pub heads : heads_of (notes_of bs) ≡ head_of n ∷ heads_of ns
  pub head : HeadAt bs 0 n
  pub room : room_of n ≤ length bs
  pub next : drop (room_of n) bs ≡ bytes_of ns

pub oldest_stands : (bs : List ℕ) → 0 < length bs → bytes_of (notes_of bs) ≡ bs → Oldest bs
oldest_stands bs some formed = go (notes_of bs) refl
  where
    go : (all : List Note) → notes_of bs ≡ all → Oldest bs
    go [] is = let e = ap length (sym formed ∙ ap bytes_of is) in absurd (omega arith)
    go (m ∷ ms) is =
        let p = parted m ms in
        let n = p.n in
        let whole : bs ≡ bytes_of_note n ++ bytes_of p.ns = sym formed ∙ ap bytes_of (is ∙ p.is) ∙ bytes_of_older p.ns n in
        let a = ap length whole in
        let b = length-append (bytes_of_note n) (bytes_of p.ns) in
        let r = length_of_note n in
        record {
          n = n;
          ns = p.ns;
          heads = ap heads_of (is ∙ p.is) ∙ heads_of_older p.ns n;
          head = head_words bs 0 n (bytes_of p.ns) whole;
          room = omega arith;
          next = ap (drop (room_of n)) whole ∙ drop_at (bytes_of_note n) (bytes_of p.ns) (room_of n) r;
        }

-- the bytes after the oldest record are those of the others
pub left_after : (bs later : List ℕ) (s : ℕ) (o : Oldest bs) → s ≡ length o.n.pairs → later ≡ drop (record_length s) bs → later ≡ bytes_of o.ns
left_after bs later s o same is = is ∙ ap (λ k. drop (record_length k) bs) same ∙ o.next

-- with its oldest record taken off, these bytes have the other heads
pub heads_after : (bs later : List ℕ) (h : Head) (o : Oldest bs) → h.u ≡ word bs → h.v ≡ word (drop 2 bs) → h.s ≡ word (drop 4 bs) → later ≡ drop (record_length h.s) bs → heads_of (notes_of bs) ≡ h ∷ heads_of (notes_of later)
heads_after bs later h o u v s is =
    let same : h ≡ head_of o.n = (λ d. record { u = (u ∙ o.head.u) d; v = (v ∙ o.head.v) d; s = (s ∙ o.head.s) d }) in
    let rest = holds_of later o.ns (left_after bs later h.s o (s ∙ o.head.s) is) in
    o.heads ∙ (λ d. sym same d ∷ heads_of (sym rest d))
