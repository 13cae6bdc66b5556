-- Marking a simplex: which masks change, and that the model stays in order and legal.
use Rattle.std.proofs.Common.{◌≡◌, ℕ, ◌^◌, ◌<◌, Bool, true, false, cond, ◌||◌, ◌⊎◌, List, [], ◌∷◌, length, Some, None, fold, Option, Ordering, Less, Equal, Greater, unwrap_or, sym, refl, ap, ◌∙◌, inl, inr, arith}
use lib.Bits.{bit_or, or_add_and, and_le_r}
use Rattle.std.specs.Ordering.{is_eq}
use Rattle.std.proofs.lemmas.Bool.{ne_eqb, or_cases, or_left, or_right}
use Rattle.order.specs.Assoc.{by, lookup, weigh}
use Rattle.order.proofs.Maps.{total_put, length_is_total}
use Rattle.complex.specs.Mask.{bit}
use Rattle.complex.specs.Model.{Model, mask, present, Sorted, In, Legal, mark_one, mark, Marked}
use Rattle.complex.specs.Simplex.{colex, Rising, Face, faces, among}
use Rattle.complex.proofs.Faces.{Distinct, same_simplex, same_as_itself, face_of_face, listed_is_face, face_is_listed, faces_distinct}
use Rattle.complex.proofs.Masks.{bit_of_or}
use Rattle.complex.proofs.Order.{colex_lawful, colex_exact}
use Rattle.complex.proofs.Writes.{mask_write, write_keeps_order}

module _ (p : ℕ) where
  pub mark_one_keeps_order : (M : Model) (f : List ℕ) → Sorted M → Sorted (mark_one p M f)
  mark_one_keeps_order M f u = write_keeps_order M f (bit_or (mask M f) (2 ^ p)) u

  pub marks_keep_order : (fs : List (List ℕ)) (M : Model) → Sorted M → Sorted (fold (mark_one p) M fs)
  marks_keep_order [] M u = u
  marks_keep_order (f ∷ fs) M u = marks_keep_order fs (mark_one p M f) (mark_one_keeps_order M f u)

  mark_one_mask : (M : Model) (f q : List ℕ) → Sorted M → mask (mark_one p M f) q ≡ cond (is_eq (colex q f)) (bit_or (mask M q) (2 ^ p)) (mask M q)
  mark_one_mask M f q u = mask_write M f q (bit_or (mask M f) (2 ^ p)) u ∙ go (colex q f) refl
    where
      go : (o : Ordering) → colex q f ≡ o → by o (mask M q) (bit_or (mask M f) (2 ^ p)) (mask M q) ≡ cond (is_eq o) (bit_or (mask M q) (2 ^ p)) (mask M q)
      go Less e = refl
      go Equal e = ap (λ s. bit_or (mask M s) (2 ^ p)) (sym (same_simplex q f (ap is_eq e)))
      go Greater e = refl

  -- what is held stays held
  pub mark_one_holds : (M : Model) (f q : List ℕ) → Sorted M → 0 < mask M q → 0 < mask (mark_one p M f) q
  mark_one_holds M f q u h = rw (mark_one_mask M f q u) (go (is_eq (colex q f)))
    where
      go : (b : Bool) → 0 < cond b (bit_or (mask M q) (2 ^ p)) (mask M q)
      go true = omega (arith, or_add_and (mask M q) (2 ^ p), and_le_r (mask M q) (2 ^ p))
      go false = h

  -- the simplexes of the list get bit p, and every other is as before
  pub marks_masks : (fs : List (List ℕ)) (M : Model) (q : List ℕ) → Sorted M → Distinct fs → mask (fold (mark_one p) M fs) q ≡ cond (among q fs) (bit_or (mask M q) (2 ^ p)) (mask M q)
  marks_masks [] M q u d = refl
  marks_masks (f ∷ fs) M q u d =
      marks_masks fs (mark_one p M f) q (mark_one_keeps_order M f u) d.1
      ∙ step (is_eq (colex q f)) (among q fs) (mask (mark_one p M f) q) (mark_one_mask M f q u) (λ e. ap (λ s. among s fs) (same_simplex q f e) ∙ d.0)
    where
      step : (a b : Bool) (new : ℕ) → new ≡ cond a (bit_or (mask M q) (2 ^ p)) (mask M q) → (a ≡ true → b ≡ false) →
          cond b (bit_or new (2 ^ p)) new ≡ cond (a || b) (bit_or (mask M q) (2 ^ p)) (mask M q)
      step true b new e n = ap (λ c. cond c (bit_or new (2 ^ p)) new) (n refl) ∙ e
      step false b new e n = ap (λ m. cond b (bit_or m (2 ^ p)) m) e

  unlisted : (s q : List ℕ) → Rising s → (Face q s → ⊥) → (b : Bool) → among q (faces s) ≡ b → among q (faces s) ≡ false
  unlisted s q r n true e = absurd (n (listed_is_face s q r e))
  unlisted s q r n false e = e

  pub mark_changes : (M : Model) (s : List ℕ) → Sorted M → Rising s → Marked p M (mark p M s) s
  mark_changes M s u r = record {
    face = λ q f. masks q ∙ ap (λ b. cond b (bit_or (mask M q) (2 ^ p)) (mask M q)) (face_is_listed s q r f);
    other = λ q n. masks q ∙ ap (λ b. cond b (bit_or (mask M q) (2 ^ p)) (mask M q)) (unlisted s q r n (among q (faces s)) refl);
  }
    where
      masks : (q : List ℕ) → mask (mark p M s) q ≡ cond (among q (faces s)) (bit_or (mask M q) (2 ^ p)) (mask M q)
      masks q = marks_masks (faces s) M q u (faces_distinct s r)

  -- marking a held simplex keeps a model legal
  pub mark_keeps_legal : (M N : Model) (s : List ℕ) → ((q : List ℕ) → Face q s ⊎ (Face q s → ⊥)) → 0 < mask M s → Legal M → Marked p M N s → Legal N
  mark_keeps_legal M N s told held legal marked = record { body = λ q h. body q h (told q); closed = λ r q t i f. closed r q t i f (told q) }
    where
      -- what was in a part is in it still
      stays : (r : ℕ) (t : List ℕ) → In r M t → Face t s ⊎ (Face t s → ⊥) → In r N t
      stays r t i (inl f) = ap (bit r) (marked.face t f) ∙ bit_of_or r (mask M t) (2 ^ p) ∙ or_left _ _ i
      stays r t i (inr n) = ap (bit r) (marked.other t n) ∙ i

      body : (q : List ℕ) → 0 < mask N q → Face q s ⊎ (Face q s → ⊥) → In 0 N q
      body q h (inl f) = stays 0 q (legal.closed 0 s q (legal.body s held) f) (inl f)
      body q h (inr n) = stays 0 q (legal.body q (rw (marked.other q n) at h)) (inr n)

      fresh : (r : ℕ) (q t : List ℕ) → Face q s → Face t q → (bit r (mask M q) ≡ true) ⊎ (bit r (2 ^ p) ≡ true) → In r N t
      fresh r q t f g (inl i) = stays r t (legal.closed r q t i g) (told t)
      fresh r q t f g (inr i) = ap (bit r) (marked.face t (face_of_face t q s g f)) ∙ bit_of_or r (mask M t) (2 ^ p) ∙ or_right _ _ i

      closed : (r : ℕ) (q t : List ℕ) → In r N q → Face t q → Face q s ⊎ (Face q s → ⊥) → In r N t
      closed r q t i g (inl f) = fresh r q t f g (or_cases _ _ (sym (bit_of_or r (mask M q) (2 ^ p)) ∙ sym (ap (bit r) (marked.face q f)) ∙ i))
      closed r q t i g (inr n) = stays r t (legal.closed r q t (sym (ap (bit r) (marked.other q n)) ∙ i) g) (told t)

  held_there : (o : Option ℕ) → 0 < unwrap_or o 0 → (s : List ℕ) → weigh (λ _ _. 1) s o ≡ 1
  held_there None h s = absurd (omega arith)
  held_there (Some m) h s = refl

  or_weighs : (m : ℕ) → 0 < m → (s : List ℕ) → weigh (λ _ _. 1) s (present m) ≡ 1
  or_weighs m h s = ap (λ b. weigh (λ _ _. 1) s (cond b None (Some m))) (ne_eqb m 0 (omega arith))

  -- marking a held simplex adds none
  pub mark_one_adds_none : (M : Model) (f : List ℕ) → Sorted M → 0 < mask M f → length (mark_one p M f) ≡ length M
  mark_one_adds_none M f u h =
      let m = bit_or (mask M f) (2 ^ p) in
      let l : 0 < m = omega (arith, or_add_and (mask M f) (2 ^ p), and_le_r (mask M f) (2 ^ p)) in
      omega (arith, total_put colex colex_lawful colex_exact (λ _ _. 1) M f (present m) u, held_there (lookup colex f M) h f, or_weighs m l f, length_is_total M, length_is_total (mark_one p M f))

  pub marks_add_none : (fs : List (List ℕ)) (M : Model) → Sorted M → ((q : List ℕ) → among q fs ≡ true → 0 < mask M q) → length (fold (mark_one p) M fs) ≡ length M
  marks_add_none [] M u h = refl
  marks_add_none (f ∷ fs) M u h =
      marks_add_none fs (mark_one p M f) (mark_one_keeps_order M f u) (λ q i. mark_one_holds M f q u (h q (or_right _ _ i)))
      ∙ mark_one_adds_none M f u (h f (or_left _ _ (same_as_itself f)))
