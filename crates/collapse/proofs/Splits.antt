-- The split by a collapse's record gives back every mask that was there before.
use Rattle.std.proofs.Common.{◌≡◌, ℕ, zero, suc, ◌<◌, Bool, true, false, cond, ◌⊎◌, List, [], ◌∷◌, Some, sym, refl, ap, ◌∙◌, inl, inr, arith}
use lib.Bits.{bit_or, bit_and, or_add_and, and_le_l, and_le_r}
use Rattle.std.proofs.lemmas.Bool.{cases_Bool, true≢false}
use Rattle.order.specs.declared.record.Record.{Record}
use Rattle.complex.specs.Model.{Model, mask, write, Sorted}
use Rattle.complex.specs.Simplex.{has, plus, Rising}
use Rattle.complex.proofs.Writes.{write_keeps_order}
use Rattle.collapse.specs.Image.{less, collapse}
use Rattle.collapse.specs.Laws.{Positive, Shaped, Exact, merged, SplitInverts}
use Rattle.collapse.specs.Link.{Base}
use Rattle.collapse.specs.Split.{bases, former, pairs_of, split_one, split_each, split}
use Rattle.collapse.proofs.Eulers.{Bases, Member, not_held, over_u, over_v, over_both, over_else}
use Rattle.collapse.proofs.Images.{Listed, listed_lookup, listed_mask, held_listed, same_masks, write_keeps_positive, collapse_positive, image_rule, image_masks}
use Rattle.collapse.proofs.Legals.{collapse_keeps_legal, untied_is_exact}
use Rattle.collapse.proofs.Vertices.{has_less, less_rising, less_plus, alike, rising_told, plus_rising, rest, rest_is_base, by_u, by_v, by_both, with_u_has_u, with_u_lacks_v}

-- q is one of the three lists over s
abbrev Over : ℕ → ℕ → List ℕ → List ℕ → Type 0
Over u v q s = (q ≡ plus u s) ⊎ ((q ≡ plus v s) ⊎ (q ≡ plus u (plus v s)))

-- q is one of the three lists over a member
abbrev Touched : ℕ → ℕ → List ℕ → List (List ℕ) → Type 0
Touched u v q [] = ⊥
Touched u v q (s ∷ ss) = Over u v q s ⊎ Touched u v q ss

touched_member : (u v : ℕ) (q s : List ℕ) (ss : List (List ℕ)) → Over u v q s → Member s ss → Touched u v q ss
touched_member u v q s [] o m = absurd m
touched_member u v q s (t ∷ ss) o (inl e) = inl (rw e at o)
touched_member u v q s (t ∷ ss) o (inr m) = inr (touched_member u v q s ss o m)

-- the model is to be got back from masks that are right, or over a base of the list
module _ (u v : ℕ) (n : u ≡ v → ⊥) (M : Model) (exact : Exact u v M) where
  split_one_sorted : (L : Model) (s : List ℕ) (a b : ℕ) → Sorted L → Sorted (split_one u v L s a b)
  split_one_sorted L s a b sorted =
      write_keeps_order (write (write L (plus u s) a) (plus v s) b) (plus u (plus v s)) _
      (write_keeps_order (write L (plus u s) a) (plus v s) b (write_keeps_order L (plus u s) a sorted))

  split_one_positive : (L : Model) (s : List ℕ) (a b : ℕ) → Sorted L → Positive L → Positive (split_one u v L s a b)
  split_one_positive L s a b sorted positive =
      let first = write_keeps_order L (plus u s) a sorted in
      let second = write_keeps_order (write L (plus u s) a) (plus v s) b first in
      write_keeps_positive (write (write L (plus u s) a) (plus v s) b) (plus u (plus v s)) _ second
      (write_keeps_positive (write L (plus u s) a) (plus v s) b first (write_keeps_positive L (plus u s) a sorted positive))

  splits_sorted : (ss : List (List ℕ)) (L : Model) → Sorted L → Sorted (split_each u v L ss (former u v M ss))
  splits_sorted [] L sorted = sorted
  splits_sorted (s ∷ ss) L sorted =
      splits_sorted ss (split_one u v L s (mask M (plus u s)) (mask M (plus v s))) (split_one_sorted L s (mask M (plus u s)) (mask M (plus v s)) sorted)

  splits_positive : (ss : List (List ℕ)) (L : Model) → Sorted L → Positive L → Positive (split_each u v L ss (former u v M ss))
  splits_positive [] L sorted positive = positive
  splits_positive (s ∷ ss) L sorted positive =
      let a = mask M (plus u s) in
      let b = mask M (plus v s) in
      splits_positive ss (split_one u v L s a b) (split_one_sorted L s a b sorted) (split_one_positive L s a b sorted positive)

  split_one_right : (L : Model) → Sorted L → (s : List ℕ) → Base u v s → (ss : List (List ℕ)) →
      ((q : List ℕ) → (mask L q ≡ mask M q) ⊎ Touched u v q (s ∷ ss)) →
      (q : List ℕ) → (mask (split_one u v L s (mask M (plus u s)) (mask M (plus v s))) q ≡ mask M q) ⊎ Touched u v q ss
  split_one_right L sorted s base ss right q = go (alike q (plus u s)) (alike q (plus v s)) (alike q (plus u (plus v s)))
    where
      a : ℕ
      a = mask M (plus u s)

      b : ℕ
      b = mask M (plus v s)

      N : Model
      N = split_one u v L s a b

      else : (q ≡ plus u s → ⊥) → (q ≡ plus v s → ⊥) → (q ≡ plus u (plus v s) → ⊥) → (mask L q ≡ mask M q) ⊎ Touched u v q (s ∷ ss) → (mask N q ≡ mask M q) ⊎ Touched u v q ss
      else x y z (inl e) = inl (over_else u v n s base L sorted a b (bit_and a b) q x y z ∙ e)
      else x y z (inr (inl (inl e))) = absurd (x e)
      else x y z (inr (inl (inr (inl e)))) = absurd (y e)
      else x y z (inr (inl (inr (inr e)))) = absurd (z e)
      else x y z (inr (inr t)) = inr t

      go : (q ≡ plus u s) ⊎ (q ≡ plus u s → ⊥) → (q ≡ plus v s) ⊎ (q ≡ plus v s → ⊥) → (q ≡ plus u (plus v s)) ⊎ (q ≡ plus u (plus v s) → ⊥) → (mask N q ≡ mask M q) ⊎ Touched u v q ss
      go (inl e) y z = inl (ap (mask N) e ∙ over_u u v n s base L sorted a b (bit_and a b) ∙ ap (mask M) (sym e))
      go (inr x) (inl e) z = inl (ap (mask N) e ∙ over_v u v n s base L sorted a b (bit_and a b) ∙ ap (mask M) (sym e))
      go (inr x) (inr y) (inl e) = inl (ap (mask N) e ∙ over_both u v n s base L sorted a b (bit_and a b) ∙ sym (exact s base) ∙ ap (mask M) (sym e))
      go (inr x) (inr y) (inr z) = else x y z (right q)

  splits_right : (ss : List (List ℕ)) (L : Model) → Sorted L → Bases u v ss → ((q : List ℕ) → (mask L q ≡ mask M q) ⊎ Touched u v q ss) →
      (q : List ℕ) → mask (split_each u v L ss (former u v M ss)) q ≡ mask M q
  splits_right [] L sorted bs right q = go (right q)
    where
      go : (mask L q ≡ mask M q) ⊎ ⊥ → mask L q ≡ mask M q
      go (inl e) = e
      go (inr z) = absurd z
  splits_right (s ∷ ss) L sorted bs right q =
      let a = mask M (plus u s) in
      let b = mask M (plus v s) in
      splits_right ss (split_one u v L s a b) (split_one_sorted L s a b sorted) bs.1 (split_one_right L sorted s bs.0 ss right) q

-- the list of the bases of a model
bases_from : (u v : ℕ) (rows : Model) → ((r : Record (List ℕ) ℕ) → Listed r rows → has u r.key ≡ true → Base u v (less u r.key)) → Bases u v (bases u rows)
bases_from u v [] f = tt
bases_from u v (r ∷ rs) f = go (bases_from u v rs (λ x l. f x (inr l))) (has u r.key) refl
  where
    go : Bases u v (bases u rs) → (b : Bool) → has u r.key ≡ b → Bases u v (cond b (less u r.key ∷ bases u rs) (bases u rs))
    go more true e = (f r (inl refl) e, more)
    go more false e = more

pub listed_base : (u : ℕ) (r : Record (List ℕ) ℕ) (rows : Model) → has u r.key ≡ true → Listed r rows → Member (less u r.key) (bases u rows)
listed_base u r [] h l = absurd l
listed_base u r (x ∷ xs) h l = go (listed_base u r xs h) (has u x.key) refl l
  where
    go : (Listed r xs → Member (less u r.key) (bases u xs)) → (b : Bool) → has u x.key ≡ b → (r ≡ x) ⊎ Listed r xs → Member (less u r.key) (cond b (less u x.key ∷ bases u xs) (bases u xs))
    go more true e (inl f) = inl (ap (λ y. less u y.key) f)
    go more true e (inr l) = inr (more l)
    go more false e (inl f) = absurd (true≢false (sym h ∙ ap (λ y. has u y.key) f ∙ e))
    go more false e (inr l) = more l

none_joined : (a b : ℕ) → bit_or a b ≡ 0 → (a ≡ 0) × (b ≡ 0)
none_joined a b h =
    let s = or_add_and a b in
    let l = and_le_l a b in
    let r = and_le_r a b in
    (omega arith, omega arith)

pub split_inverts : SplitInverts
split_inverts u v M n sound untied =
    same_masks (split u v N (pairs_of u v M)) M (splits_sorted u v n M exact (bases u N) N ordered) sound.sorted
    (splits_positive u v n M exact (bases u N) N ordered (collapse_positive u v M)) sound.positive
    (splits_right u v n M exact (bases u N) N ordered all_bases right)
  where
    exact : Exact u v M
    exact = (untied_is_exact u v M sound.legal sound.narrow).0 untied

    N : Model
    N = collapse u v M

    ordered : Sorted N
    ordered = (image_rule u v M sound.sorted).sorted

    shaped : Shaped N
    shaped = (collapse_keeps_legal u v M n sound.sorted sound.shaped sound.legal).1

    after : (t : List ℕ) → Rising t → mask N t ≡ merged u v M t
    after = (image_masks u v M n sound.sorted sound.shaped sound.legal).rising

    -- what has v is gone
    gone : (t : List ℕ) → Rising t → has v t ≡ true → mask N t ≡ 0
    gone t r x = after t r ∙ rw x

    held : (r : Record (List ℕ) ℕ) → Listed r N → 0 < mask N r.key
    held r l = go (mask N r.key) refl
      where
        go : (m : ℕ) → mask N r.key ≡ m → 0 < m
        go zero e = absurd (collapse_positive u v M r.key (listed_lookup r N ordered l ∙ ap Some (sym (listed_mask r N ordered l) ∙ e)))
        go (suc m) e = omega arith

    base_here : (r : Record (List ℕ) ℕ) → Listed r N → has u r.key ≡ true → Base u v (less u r.key)
    base_here r l h =
        let rise = (shaped r.key (held r l)).0 in
        let a = has_less u u r.key rise in
        let b = has_less v u r.key rise in
        let c = lacks rise (cases_Bool (has v r.key)) in
        record { rising = less_rising u r.key rise; no_u = grind arith; no_v = grind arith }
      where
        lacks : Rising r.key → (has v r.key ≡ true) ⊎ (has v r.key ≡ false) → has v r.key ≡ false
        lacks rise (inl x) = let z = gone r.key rise x in let k = held r l in absurd (omega arith)
        lacks rise (inr x) = x

    all_bases : Bases u v (bases u N)
    all_bases = bases_from u v N base_here

    joint : (s : List ℕ) → Base u v s → mask N (plus u s) ≡ bit_or (mask M (plus u s)) (mask M (plus v s))
    joint s b = after (plus u s) (plus_rising u s b.rising) ∙ rw (with_u_lacks_v u v n s b, with_u_has_u u v n s b, less_plus u s b.rising b.no_u)

    -- over a base that the collapse left nothing at there was nothing
    nothing : (q s : List ℕ) → Base u v s → Over u v q s → mask N (plus u s) ≡ 0 → mask M q ≡ 0
    nothing q s b o z = go (none_joined (mask M (plus u s)) (mask M (plus v s)) (sym (joint s b) ∙ z)) o
      where
        go : (mask M (plus u s) ≡ 0) × (mask M (plus v s) ≡ 0) → Over u v q s → mask M q ≡ 0
        go e (inl f) = ap (mask M) f ∙ e.0
        go e (inr (inl f)) = ap (mask M) f ∙ e.1
        go e (inr (inr f)) = ap (mask M) f ∙ exact s b ∙ ap (λ a. bit_and a (mask M (plus v s))) e.0

    member : (s : List ℕ) → Base u v s → 0 < mask N (plus u s) → Member s (bases u N)
    member s b h =
        let m = listed_base u (record { key = plus u s; value = mask N (plus u s) }) N (with_u_has_u u v n s b) (held_listed (plus u s) N h) in
        rw (less_plus u s b.rising b.no_u) at m

    -- a list over its base
    found : (q : List ℕ) → Rising q → Over u v q (rest u v q) → (mask N (plus u (rest u v q)) ≡ 0 → mask N q ≡ 0) → (m : ℕ) → mask N (plus u (rest u v q)) ≡ m → (mask N q ≡ mask M q) ⊎ Touched u v q (bases u N)
    found q r o f zero e = inl (f e ∙ sym (nothing q (rest u v q) (rest_is_base u v n q r) o e))
    found q r o f (suc m) e = inr (touched_member u v q (rest u v q) (bases u N) o (member (rest u v q) (rest_is_base u v n q r) (rw e (omega arith))))

    right : (q : List ℕ) → (mask N q ≡ mask M q) ⊎ Touched u v q (bases u N)
    right q = go (rising_told q) (cases_Bool (has v q)) (cases_Bool (has u q))
      where
        go : Rising q ⊎ (Rising q → ⊥) → (has v q ≡ true) ⊎ (has v q ≡ false) → (has u q ≡ true) ⊎ (has u q ≡ false) → (mask N q ≡ mask M q) ⊎ Touched u v q (bases u N)
        go (inr k) x y = inl (not_held (mask N q) (λ h. k (shaped q h).0) ∙ sym (not_held (mask M q) (λ h. k (sound.shaped q h).0)))
        go (inl r) (inl x) (inl y) = found q r (inr (inr (by_both u v n q r y x))) (λ z. gone q r x) (mask N (plus u (rest u v q))) refl
        go (inl r) (inl x) (inr y) = found q r (inr (inl (by_v u v n q r y x))) (λ z. gone q r x) (mask N (plus u (rest u v q))) refl
        go (inl r) (inr x) (inl y) = found q r (inl (by_u u v n q r y x)) (λ z. ap (mask N) (by_u u v n q r y x) ∙ z) (mask N (plus u (rest u v q))) refl
        go (inl r) (inr x) (inr y) = inl (after q r ∙ rw (x, y))
