-- Laying a simplex: which masks change, and that the model stays in order, in bounds and legal.
use Rattle.std.proofs.Common.{◌≡◌, ℕ, zero, suc, ◌+◌, ◌<◌, ◌≤◌, Bool, true, false, cond, ◌&&◌, ◌||◌, eqb, ◌⊎◌, List, [], ◌∷◌, length, Some, None, fold, Option, Ordering, Less, Equal, Greater, unwrap_or, sym, refl, ap, ◌∙◌, inl, inr, arith}
use Rattle.std.specs.Ordering.{is_eq, ordering_reverse}
use Rattle.std.proofs.lemmas.List.Sums.{sum_by-cons}
use Rattle.std.proofs.lemmas.Bool.{eqb-true, ne_eqb, cond-false, or_parts, true≢false}
use Rattle.order.specs.Assoc.{by, lookup, weigh}
use Rattle.order.proofs.Maps.{lookup_put, total_put, length_is_total}
use Rattle.complex.specs.Mask.{bit}
use Rattle.complex.specs.Model.{Model, mask, write, Sorted, In, Legal, lay_one, lay, Laid, absent}
use Rattle.complex.specs.Simplex.{colex, Rising, Face, faces, among}
use Rattle.complex.proofs.Faces.{Distinct, same_simplex, face_of_face, listed_is_face, face_is_listed}
use Rattle.complex.proofs.Masks.{bit_holds, bit_of_part}
use Rattle.complex.proofs.Order.{colex_lawful, colex_exact}
use Rattle.complex.proofs.Writes.{mask_write, write_keeps_order, write_adds_one_at_most}

pub lay_one_keeps_order : (M : Model) (f : List ℕ) → Sorted M → Sorted (lay_one M f)
lay_one_keeps_order M f u = go (eqb (mask M f) 0)
  where
    go : (b : Bool) → Sorted (cond b (write M f 1) M)
    go true = write_keeps_order M f 1 u
    go false = u

lay_one_mask : (M : Model) (f q : List ℕ) → Sorted M → mask (lay_one M f) q ≡ cond (is_eq (colex q f) && eqb (mask M f) 0) 1 (mask M q)
lay_one_mask M f q u = go (eqb (mask M f) 0)
  where
    placed : (o : Ordering) → by o (mask M q) 1 (mask M q) ≡ cond (is_eq o && true) 1 (mask M q)
    placed Less = refl
    placed Equal = refl
    placed Greater = refl

    left : (b : Bool) → mask M q ≡ cond (b && false) 1 (mask M q)
    left true = refl
    left false = refl

    go : (b : Bool) → mask (cond b (write M f 1) M) q ≡ cond (is_eq (colex q f) && b) 1 (mask M q)
    go true = mask_write M f q 1 u ∙ placed (colex q f)
    go false = left (is_eq (colex q f))

pub lays_keep_order : (fs : List (List ℕ)) (M : Model) → Sorted M → Sorted (fold lay_one M fs)
lays_keep_order [] M u = u
lays_keep_order (f ∷ fs) M u = lays_keep_order fs (lay_one M f) (lay_one_keeps_order M f u)

-- a simplex of the list that was absent has the mask 1, and every other is as before
lays_masks : (fs : List (List ℕ)) (M : Model) (q : List ℕ) → Sorted M → mask (fold lay_one M fs) q ≡ cond (among q fs && eqb (mask M q) 0) 1 (mask M q)
lays_masks [] M q u = refl
lays_masks (f ∷ fs) M q u =
    lays_masks fs (lay_one M f) q (lay_one_keeps_order M f u)
    ∙ step (is_eq (colex q f)) (among q fs) (mask M q) (mask M f) (mask (lay_one M f) q) (lay_one_mask M f q u) (λ e. ap (mask M) (sym (same_simplex q f e)))
  where
    step : (a b : Bool) (old there new : ℕ) → new ≡ cond (a && eqb there 0) 1 old → (a ≡ true → there ≡ old) → cond (b && eqb new 0) 1 new ≡ cond ((a || b) && eqb old 0) 1 old
    step true b old there new e f = let g = f refl in grind arith
    step false b old there new e f = grind arith

pub lay_changes : (M : Model) (s : List ℕ) → Sorted M → Rising s → Laid M (lay M s) s
lay_changes M s u r = record {
  face = λ q f. lays_masks (faces s) M q u ∙ ap (λ b. cond (b && eqb (mask M q) 0) 1 (mask M q)) (face_is_listed s q r f);
  other = λ q n. lays_masks (faces s) M q u ∙ ap (λ b. cond (b && eqb (mask M q) 0) 1 (mask M q)) (unlisted q n (among q (faces s)) refl);
}
  where
    unlisted : (q : List ℕ) → (Face q s → ⊥) → (b : Bool) → among q (faces s) ≡ b → among q (faces s) ≡ false
    unlisted q n true e = absurd (n (listed_is_face s q r e))
    unlisted q n false e = e

-- a mask that laying changed is 1, and only the body has bit of it
low_bit : (p : ℕ) → bit p 1 ≡ true → p ≡ 0
low_bit p h = eqb-true p 0 (sym (bit_of_part p 0) ∙ h)

laid_face : (m : ℕ) → 0 < m → cond (eqb m 0) 1 m ≡ m
laid_face m h = cond-false (eqb m 0) 1 m (ne_eqb m 0 (omega arith))

laid_body : (m : ℕ) → (0 < m → bit 0 m ≡ true) → bit 0 (cond (eqb m 0) 1 m) ≡ true
laid_body zero f = refl
laid_body (suc m) f = ap (bit 0) (laid_face (suc m) (omega arith)) ∙ f (omega arith)

-- laying keeps a model legal
pub lay_keeps_legal : (M N : Model) (s : List ℕ) → ((q : List ℕ) → Face q s ⊎ (Face q s → ⊥)) → Legal M → Laid M N s → Legal N
lay_keeps_legal M N s told legal laid = record { body = λ q h. body q h (told q); closed = λ p q t i f. closed p q t i f (told q) }
  where
    body : (q : List ℕ) → 0 < mask N q → Face q s ⊎ (Face q s → ⊥) → In 0 N q
    body q h (inl f) = ap (bit 0) (laid.face q f) ∙ laid_body (mask M q) (legal.body q)
    body q h (inr n) = ap (bit 0) (laid.other q n) ∙ legal.body q (rw (laid.other q n) at h)

    -- what was in a part is in it still
    stays : (p : ℕ) (t : List ℕ) → In p M t → Face t s ⊎ (Face t s → ⊥) → In p N t
    stays p t i (inl f) = ap (bit p) (laid.face t f ∙ laid_face (mask M t) (bit_holds p (mask M t) i)) ∙ i
    stays p t i (inr n) = ap (bit p) (laid.other t n) ∙ i

    fresh : (p : ℕ) (q t : List ℕ) → bit p (cond (eqb (mask M q) 0) 1 (mask M q)) ≡ true → Face q s → Face t q → (b : Bool) → eqb (mask M q) 0 ≡ b → In p N t
    fresh p q t i f g true e =
        let zero_part = low_bit p (sym (ap (λ b. bit p (cond b 1 (mask M q))) e) ∙ i) in
        ap (λ r. bit r (mask N t)) zero_part ∙ ap (bit 0) (laid.face t (face_of_face t q s g f)) ∙ laid_body (mask M t) (legal.body t)
    fresh p q t i f g false e = stays p t (legal.closed p q t (sym (ap (λ b. bit p (cond b 1 (mask M q))) e) ∙ i) g) (told t)

    closed : (p : ℕ) (q t : List ℕ) → In p N q → Face t q → Face q s ⊎ (Face q s → ⊥) → In p N t
    closed p q t i g (inl f) = fresh p q t (sym (ap (bit p) (laid.face q f)) ∙ i) f g (eqb (mask M q) 0) refl
    closed p q t i g (inr n) = stays p t (legal.closed p q t (sym (ap (bit p) (laid.other q n)) ∙ i) g) (told t)

-- laying one simplex takes the room of one that was absent
pub lay_one_room : (M : Model) (f : List ℕ) (fs : List (List ℕ)) → Sorted M → length (lay_one M f) + absent (lay_one M f) fs ≤ length M + absent M (f ∷ fs)
lay_one_room M f fs u =
    let fewer = absent_falls fs in
    let here = one (eqb (mask M f) 0) in
    let sum = sum_by-cons (λ g. cond (eqb (mask M g) 0) 1 0) f fs in
    omega arith
  where
    one : (b : Bool) → length (cond b (write M f 1) M) ≤ length M + cond b 1 0
    one true = write_adds_one_at_most M f 1 u
    one false = omega arith

    kept : (q : List ℕ) → eqb (mask M q) 0 ≡ false → eqb (mask (lay_one M f) q) 0 ≡ false
    kept q e = ap (λ m. eqb m 0) (lay_one_mask M f q u) ∙ go (is_eq (colex q f) && eqb (mask M f) 0)
      where
        go : (b : Bool) → eqb (cond b 1 (mask M q)) 0 ≡ false
        go true = refl
        go false = e

    fall : (a b : Bool) → (b ≡ false → a ≡ false) → cond a 1 0 ≤ cond b 1 0
    fall true true h = omega arith
    fall true false h = absurd (true≢false (h refl))
    fall false b h = omega arith

    absent_falls : (gs : List (List ℕ)) → absent (lay_one M f) gs ≤ absent M gs
    absent_falls [] = omega arith
    absent_falls (g ∷ gs) =
        let more = absent_falls gs in
        let a = sum_by-cons (λ g. cond (eqb (mask (lay_one M f) g) 0) 1 0) g gs in
        let b = sum_by-cons (λ g. cond (eqb (mask M g) 0) 1 0) g gs in
        let c = fall (eqb (mask (lay_one M f) g) 0) (eqb (mask M g) 0) (kept g) in
        omega arith

-- no record has the mask 0
abbrev pub Positive : Model → Type 0
Positive M = (q : List ℕ) → lookup colex q M ≡ Some 0 → ⊥

absent_none : (o : Option ℕ) → (o ≡ Some 0 → ⊥) → unwrap_or o 0 ≡ 0 → o ≡ None
absent_none None n e = refl
absent_none (Some m) n e = absurd (n (ap Some e))

write_one_positive : (M : Model) (f : List ℕ) → Sorted M → Positive M → Positive (write M f 1)
write_one_positive M f u pos q h = go (colex q f) (sym (lookup_put colex colex_lawful colex_exact M f q (Some 1) u) ∙ h)
  where
    go : (o : Ordering) → by o (lookup colex q M) (Some 1) (lookup colex q M) ≡ Some 0 → ⊥
    go Less e = pos q e
    go Equal e = let z : ◌≡◌ {A = ℕ} 0 1 = cc in omega arith
    go Greater e = pos q e

-- laying distinct simplexes adds exactly those that are absent
pub lays_add_the_absent : (fs : List (List ℕ)) (M : Model) → Sorted M → Positive M → Distinct fs → length (fold lay_one M fs) ≡ length M + absent M fs
lays_add_the_absent [] M u pos d = omega arith
lays_add_the_absent (f ∷ fs) M u pos d =
    let more = lays_add_the_absent fs (lay_one M f) (lay_one_keeps_order M f u) (stays (eqb (mask M f) 0)) d.1 in
    let here = one (eqb (mask M f) 0) refl in
    let same = unchanged fs d.0 in
    let sum = sum_by-cons (λ g. cond (eqb (mask M g) 0) 1 0) f fs in
    omega arith
  where
    stays : (b : Bool) → Positive (cond b (write M f 1) M)
    stays true = write_one_positive M f u pos
    stays false = pos

    one : (b : Bool) → eqb (mask M f) 0 ≡ b → length (cond b (write M f 1) M) ≡ length M + cond b 1 0
    one true e =
        let gone : lookup colex f M ≡ None = absent_none (lookup colex f M) (pos f) (eqb-true (mask M f) 0 e) in
        let sum = total_put colex colex_lawful colex_exact (λ _ _. 1) M f (Some 1) u in
        let weight : weigh (λ _ _. 1) f (lookup colex f M) ≡ 0 = ap (weigh (λ _ _. 1) f) gone in
        omega (arith, sum, weight, length_is_total M, length_is_total (write M f 1))
    one false e = omega arith

    unchanged : (gs : List (List ℕ)) → among f gs ≡ false → absent (lay_one M f) gs ≡ absent M gs
    unchanged [] n = refl
    unchanged (g ∷ gs) n =
        let more = unchanged gs (or_parts _ _ n).1 in
        let a = sum_by-cons (λ g. cond (eqb (mask (lay_one M f) g) 0) 1 0) g gs in
        let b = sum_by-cons (λ g. cond (eqb (mask M g) 0) 1 0) g gs in
        let c : mask (lay_one M f) g ≡ mask M g = lay_one_mask M f g u ∙ ap (λ t. cond (t && eqb (mask M f) 0) 1 (mask M g)) (apart g (or_parts _ _ n).0) in
        let e : ◌≡◌ {A = ℕ} (cond (eqb (mask (lay_one M f) g) 0) 1 0) (cond (eqb (mask M g) 0) 1 0) = ap (λ m. cond (eqb m 0) 1 0) c in
        omega arith
      where
        turned : (a b : Ordering) → a ≡ ordering_reverse b → is_eq a ≡ false → is_eq b ≡ false
        turned a Less h e = refl
        turned a Equal h e = cc
        turned a Greater h e = refl

        apart : (g : List ℕ) → is_eq (colex f g) ≡ false → is_eq (colex g f) ≡ false
        apart g e = turned (colex f g) (colex g f) (colex_lawful.antisymm f g) e
