-- Bytes that are read with no flaw were written in the format.
use Rattle.std.proofs.Common.{◌≡◌, ℕ, zero, suc, ◌+◌, ◌-◌, ◌*◌, ◌/◌, ◌%◌, ◌<◌, ◌≤◌, Bool, true, false, ◌&&◌, leb, List, [], ◌∷◌, ◌++◌, length, take, drop, Ok, Err, Result, sym, refl, ap, ◌∙◌, subst, arith}
use Rattle.std.specs.List.{flat_map, AllByRecursion}
use Rattle.std.proofs.lemmas.List.{append_assoc, length-take-le, take-append-drop, drop_at}
use Rattle.std.proofs.ByRecursion.{All-take, All-drop}
use Rattle.std.proofs.lemmas.Bool.{leb-true, leb-false, cond-true, cond-false, and_parts}
use Rattle.file.specs.declared.entry.Site.{Site}
use Rattle.file.specs.declared.flaw.Flaw.{Flaw}
use Rattle.file.specs.declared.section.Section.{Section}
use Rattle.file.specs.Entry.{Content, section_of, section_count}
use Rattle.file.proofs.Sizes.{sized_plain, counted, sized_counted}
use Rattle.file.specs.Numbers.{pairs}
use Rattle.file.specs.Outcome.{Outcome, cut_off, first_entry, site_at, onward, entries, sections}
use Rattle.file.specs.Format.{vertices_written, entry_written, sections_written, EntryFits, SectionsFit, Bytes, Unflawed, ReadsOnlyFiles}

-- an even number of bytes are the vertices that they make
written_pairs : (bs : List ℕ) (k : ℕ) → Bytes bs → length bs ≡ 2 * k → vertices_written (pairs bs) ≡ bs
written_pairs [] k small even = refl
written_pairs (b ∷ []) k small even = absurd (omega arith)
written_pairs (hi ∷ lo ∷ bs) k small even =
    let l = small.1.0 in
    let e : (256 * hi + lo) / 256 ≡ hi = omega arith in
    let f : (256 * hi + lo) % 256 ≡ lo = omega arith in
    let ih = written_pairs bs (k - 1) small.1.1 (omega arith) in
    (λ d. e d ∷ f d ∷ ih d)

length_pairs : (bs : List ℕ) (k : ℕ) → length bs ≡ 2 * k → length (pairs bs) ≡ k
length_pairs [] k even = omega arith
length_pairs (b ∷ []) k even = absurd (omega arith)
length_pairs (hi ∷ lo ∷ bs) k even = let ih = length_pairs bs (k - 1) (omega arith) in omega arith

pairs_narrow : (bs : List ℕ) → Bytes bs → AllByRecursion (λ v. v < 65536) (pairs bs)
pairs_narrow [] small = tt
pairs_narrow (b ∷ []) small = tt
pairs_narrow (hi ∷ lo ∷ bs) small = (omega (arith, small.0, small.1.0), pairs_narrow bs small.1.1)

-- k vertices at the front of the bytes, and the bytes after them
record Front (k : ℕ) (bs rest : List ℕ) : Type 0 where
  vs : List ℕ
  many : length vs ≡ k
  narrow : AllByRecursion (λ v. v < 65536) vs
  whole : vertices_written vs ++ rest ≡ bs

abbrev after : Result (Content × List ℕ) Flaw → List ℕ
after (Ok x) = x.1
after (Err f) = []

abbrev IsOk : Result (Content × List ℕ) Flaw → Type 0
IsOk (Ok x) = Unit {0}
IsOk (Err f) = ⊥

cut_off_front : (k : Section) (n : ℕ) (bs : List ℕ) → Bytes bs → IsOk (cut_off k (Ok (n, bs))) → Front n bs (after (cut_off k (Ok (n, bs))))
cut_off_front k n bs small ok = go (leb (2 * n) (length bs)) refl
  where
    go : (b : Bool) → leb (2 * n) (length bs) ≡ b → Front n bs (after (cut_off k (Ok (n, bs))))
    go true e =
        let long = length-take-le (2 * n) bs (leb-true (2 * n) (length bs) e) in
        let some = All-take _ (2 * n) bs small in
        let r : after (cut_off k (Ok (n, bs))) ≡ drop (2 * n) bs = ap after (cond-true _ _ _ e) in
        let w = written_pairs (take (2 * n) bs) n some long in
        record { vs = pairs (take (2 * n) bs); many = length_pairs (take (2 * n) bs) n long; narrow = pairs_narrow (take (2 * n) bs) some; whole = (λ d. w d ++ r d) ∙ take-append-drop (2 * n) bs }
    go false e = absurd (subst IsOk (cond-false _ _ _ e) ok)

-- an entry at the front of the bytes of section s, and the bytes after it
record EntryFront (s : ℕ) (bs rest : List ℕ) : Type 0 where
  vs : List ℕ
  fits : EntryFits s vs
  whole : entry_written s vs ++ rest ≡ bs

counted_front : (s : ℕ) (k : Section) (bs : List ℕ) → leb s 4 ≡ false → Bytes bs → IsOk (cut_off k (counted bs)) → EntryFront s bs (after (cut_off k (counted bs)))
counted_front s k [] part small ok = absurd ok
counted_front s k (n ∷ bs) part small ok = go (leb 1 n && leb n 4) refl
  where
    go : (b : Bool) → (leb 1 n && leb n 4) ≡ b → EntryFront s (n ∷ bs) (after (cut_off k (counted (n ∷ bs))))
    go true e =
        let is : cut_off k (counted (n ∷ bs)) ≡ cut_off k (Ok (n, bs)) = ap (cut_off k) (cond-true _ _ _ e) in
        let f = cut_off_front k n bs small.1 (subst IsOk is ok) in
        let both = and_parts (leb 1 n) (leb n 4) e in
        let low = leb-true 1 n both.0 in
        let high = leb-true n 4 both.1 in
        let far = leb-false s 4 part in
        let many = f.many in
        let w : entry_written s f.vs ≡ n ∷ vertices_written f.vs = cond-false _ _ _ part ∙ ap (λ m. m ∷ vertices_written f.vs) f.many in
        let r = ap after is in
        record { vs = f.vs; fits = record { plain = λ h. absurd (omega arith); low = omega arith; high = omega arith; narrow = f.narrow }; whole = (λ d. w d ++ r d) ∙ ap (λ l. n ∷ l) f.whole }
    go false e = absurd (subst IsOk (ap (cut_off k) (cond-false _ _ _ e)) ok)

first_front : (s : ℕ) (bs : List ℕ) → 1 ≤ s → Bytes bs → IsOk (first_entry (section_of s) bs) → EntryFront s bs (after (first_entry (section_of s) bs))
first_front s bs begun small ok = go (leb s 4) refl
  where
    k : Section
    k = section_of s

    go : (b : Bool) → leb s 4 ≡ b → EntryFront s bs (after (first_entry k bs))
    go true e =
        let low = leb-true s 4 e in
        let is : first_entry k bs ≡ cut_off k (Ok (5 - s, bs)) = ap (cut_off k) (sized_plain s bs begun low) in
        let f = cut_off_front k (5 - s) bs small (subst IsOk is ok) in
        let many = f.many in
        let w : entry_written s f.vs ≡ vertices_written f.vs = cond-true _ _ _ e in
        let r = ap after is in
        record { vs = f.vs; fits = record { plain = λ h. f.many; low = omega arith; high = omega arith; narrow = f.narrow }; whole = (λ d. w d ++ r d) ∙ f.whole }
    go false e =
        let far = leb-false s 4 e in
        let is : first_entry k bs ≡ cut_off k (counted bs) = ap (cut_off k) (sized_counted s bs (omega arith)) in
        subst (λ r. EntryFront s bs (after r)) (sym is) (counted_front s k bs e small (subst IsOk is ok))

-- n entries at the front of the bytes of section s, and then bytes of which `go` makes no flaw
record EntriesFront (s n : ℕ) (go : List ℕ → List Outcome) (bs : List ℕ) : Type 0 where
  es : List (List ℕ)
  rest : List ℕ
  many : length es ≡ n
  fit : AllByRecursion (EntryFits s) es
  whole : flat_map (entry_written s) es ++ rest ≡ bs
  small : Bytes rest
  sound : Unflawed (go rest)

one_more_front : (s n : ℕ) (go : List ℕ → List Outcome) (bs rest : List ℕ) → EntryFront s bs rest → EntriesFront s n go rest → EntriesFront s (suc n) go bs
one_more_front s n go bs rest f more = record {
  es = f.vs ∷ more.es;
  rest = more.rest;
  many = ap suc more.many;
  fit = (f.fits, more.fit);
  whole = append_assoc (entry_written s f.vs) (flat_map (entry_written s) more.es) more.rest ∙ ap (λ l. entry_written s f.vs ++ l) more.whole ∙ f.whole;
  small = more.small;
  sound = more.sound;
}

-- what stands at the end of bytes is bytes
end_small : (front rest bs : List ℕ) → front ++ rest ≡ bs → Bytes bs → Bytes rest
end_small front rest bs whole small =
    subst Bytes (drop_at front rest (length front) refl) (All-drop _ (length front) (front ++ rest) (subst Bytes (sym whole) small))

onward_sound : (site : Site) (r : Result (Content × List ℕ) Flaw) (go : List ℕ → List Outcome) → Unflawed (onward site r go) → IsOk r × Unflawed (go (after r))
onward_sound site (Ok x) go sound = (tt, sound)
onward_sound site (Err f) go sound = absurd sound

entries_front : (size s n i : ℕ) (go : List ℕ → List Outcome) (bs : List ℕ) → 1 ≤ s → Bytes bs → Unflawed (entries size s n i go bs) → EntriesFront s n go bs
entries_front size s zero i go bs begun small sound = record { es = []; rest = bs; many = refl; fit = tt; whole = refl; small = small; sound = sound }
entries_front size s (suc n) i go bs begun small sound =
    let both = onward_sound (site_at size s i bs) (first_entry (section_of s) bs) (entries size s n (i + 1) go) sound in
    let f = first_front s bs begun small both.0 in
    let rest = after (first_entry (section_of s) bs) in
    one_more_front s n go bs rest f (entries_front size s n (i + 1) go rest begun (end_small (entry_written s f.vs) rest bs f.whole small) both.1)

-- the sections from s on, of which the bytes are made
record SectionsFront (s k : ℕ) (bs : List ℕ) : Type 0 where
  file : List (List (List ℕ))
  many : length file ≡ k
  fit : SectionsFit s file
  whole : sections_written s file ≡ bs

one_more_section : (s k hi lo : ℕ) (go : List ℕ → List Outcome) (bs : List ℕ) → hi < 256 → lo < 256 → (f : EntriesFront s (256 * hi + lo) go bs) → SectionsFront (s + 1) k f.rest → SectionsFront s (suc k) (hi ∷ lo ∷ bs)
one_more_section s k hi lo go bs high low f more =
    let many = f.many in
    let first : length f.es / 256 ≡ hi = omega arith in
    let second : length f.es % 256 ≡ lo = omega arith in
    let after = more.whole in
    let entries = f.whole in
    record {
      file = f.es ∷ more.file;
      many = ap suc more.many;
      fit = (omega arith, f.fit, more.fit);
      whole = (λ d. first d ∷ second d ∷ flat_map (entry_written s) f.es ++ after d) ∙ (λ d. hi ∷ lo ∷ entries d);
    }

sections_front : (size s k n : ℕ) (bs : List ℕ) → 1 ≤ s → s + k ≡ suc section_count → Bytes bs → Unflawed (sections size k n bs) → SectionsFront s k bs
sections_front size s zero n [] begun last small sound = record { file = []; many = refl; fit = tt; whole = refl }
sections_front size s zero n (b ∷ bs) begun last small sound = absurd sound
sections_front size s (suc k) n [] begun last small sound = absurd sound
sections_front size s (suc k) n (hi ∷ []) begun last small sound = absurd sound
sections_front size s (suc k) n (hi ∷ lo ∷ bs) begun last small sound =
    let here : section_count - k ≡ s = omega arith in
    let f = entries_front size s (256 * hi + lo) 0 (sections size k (256 * hi + lo)) bs begun small.1.1 (subst (λ m. Unflawed (entries size m (256 * hi + lo) 0 (sections size k (256 * hi + lo)) bs)) here sound) in
    one_more_section s k hi lo (sections size k (256 * hi + lo)) bs small.0 small.1.0 f (sections_front size (s + 1) k (256 * hi + lo) f.rest (omega arith) (omega arith) f.small f.sound)

pub only_written_is_read : ReadsOnlyFiles
only_written_is_read bs small sound =
    let f = sections_front (length bs) 1 section_count 0 bs (omega arith) refl small sound in
    (f.file, (f.many, f.fit), f.whole)
