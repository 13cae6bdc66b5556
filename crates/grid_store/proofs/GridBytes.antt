-- The bytes of the grid by simplexes: those with a place, and those with a vertex out of range, which are never held.
use Rattle.std.proofs.Common.{◌≡◌, ℕ, suc, ◌+◌, ◌<◌, ◌≤◌, true, false, ltb, ◌⊎◌, List, [], ◌∷◌, length, get_or, drop, set, Some, None, Ordering, Less, Equal, Greater, unwrap_or, sym, refl, ap, ◌∙◌, inl, inr, arith}
use Rattle.std.specs.Ordering.{ordering_then, nat_cmp}
use Rattle.std.proofs.lemmas.Bool.{and_parts, and_from, both_ways, cases_Bool, cases_lt, cases_order, cond-true, cond-false, ltb-true, lt-ltb}
use Rattle.order.specs.Assoc.{by, lookup, put, later}
use Rattle.complex.specs.Model.{Model, mask, present, write}
use Rattle.complex.specs.Simplex.{colex, rises, proper, below}
use Rattle.complex.proofs.Order.{colex_exact}
use Rattle.complex.proofs.Writes.{value_present}
use Rattle.store.specs.Contents.{fits}
use Rattle.store.proofs.Walks.{fit_parts}
use Rattle.grid_store.specs.Places.{vertex_range, places, first_place, place, past, simplex_at}
use Rattle.grid_store.specs.Masks.{masks_from}
use Rattle.grid_store.specs.Laws.{InGrid}
use Rattle.grid_store.proofs.Order.{proper_parts, fewer_first, sizes_rise, place_below, place_in_grid}
use Rattle.grid_store.proofs.Chosen.{simplex_in_grid, simplex_of_place, place_of_simplex}
use Rattle.grid_store.proofs.Masks.{rank_less, lookup_masks, put_masks, later_place, later_between}

module _ (s : List ℕ) (g : InGrid s) (bs : List ℕ) (room : length bs ≤ places) where
  -- the mask of a simplex is the byte at its place
  lookup_byte : lookup colex s (masks_from 0 bs) ≡ present (get_or bs (place s) 0)
  lookup_byte =
      ap (λ t. lookup colex t (masks_from 0 bs)) (sym (simplex_of_place s g))
      ∙ lookup_masks 0 (place s) (place s) bs (omega arith) (place_in_grid s g) (omega arith)

  pub mask_byte : mask (masks_from 0 bs) s ≡ get_or bs (place s) 0
  mask_byte = ap (λ o. unwrap_or o 0) lookup_byte ∙ value_present (get_or bs (place s) 0)

  -- another mask is another byte there
  pub write_byte : (m : ℕ) → place s < length bs → masks_from 0 (set bs (place s) m) ≡ write (masks_from 0 bs) s m
  write_byte m l =
      sym (put_masks 0 (place s) (place s) bs m (omega arith) l (omega arith))
      ∙ ap (λ t. write (masks_from 0 bs) t m) (simplex_of_place s g)

-- of simplexes with equally many vertices, one in range is earlier than one out of range
ranged_earlier : (n : ℕ) (t s : List ℕ) → length t ≡ length s → below n t ≡ true → rises s ≡ true → below n s ≡ false → colex t s ≡ Less
ranged_earlier n [] [] e b r o = absurd (both_ways _ o refl)
ranged_earlier n [] (y ∷ s) e b r o = absurd (omega arith)
ranged_earlier n (x ∷ t) [] e b r o = absurd (omega arith)
ranged_earlier n (x ∷ []) (y ∷ []) e b r o =
    rank_less x y (last (ltb-true x n (and_parts (ltb x n) true b).0) (cases_lt y n))
  where
    last : x < n → (y < n) ⊎ (n ≤ y) → x < y
    last l (inl h) = absurd (both_ways _ o (and_from (ltb y n) true (lt-ltb y n h) refl))
    last l (inr h) = omega arith
ranged_earlier n (x ∷ []) (y ∷ (z ∷ s)) e b r o = absurd (omega arith)
ranged_earlier n (x ∷ (w ∷ t)) (y ∷ []) e b r o = absurd (omega arith)
ranged_earlier n (x ∷ (w ∷ t)) (y ∷ (z ∷ s)) e b r o =
    let up = and_parts (ltb y z) (rises (z ∷ s)) r in
    ap (λ q. ordering_then q (nat_cmp x y)) (ranged_earlier n (w ∷ t) (z ∷ s) (omega arith) (and_parts (ltb x n) (below n (w ∷ t)) b).1 up.1 (rest (ltb-true y z up.0) (cases_Bool (below n (z ∷ s)))))
  where
    rest : y < z → (below n (z ∷ s) ≡ true) ⊎ (below n (z ∷ s) ≡ false) → below n (z ∷ s) ≡ false
    rest l (inl h) =
        let u = ltb-true z n (and_parts (ltb z n) (below n s) h).0 in
        absurd (both_ways _ o (and_from (ltb y n) (below n (z ∷ s)) (lt-ltb y n (omega arith)) h))
    rest l (inr h) = h

module _ (s : List ℕ) (simplex : proper s ≡ true) (outside : below vertex_range s ≡ false) where
  module _ (k : ℕ) (h : k < places) where
    abbrev t : List ℕ
    t = simplex_at k

    not_longer : k < first_place (suc (length s)) → (length t ≡ length s) ⊎ ((length t < length s) ⊎ (length s < length t)) → colex t s ≡ Less
    not_longer l (inl e) = ranged_earlier vertex_range t s e (simplex_in_grid k h).ranged (proper_parts s simplex).rising outside
    not_longer l (inr (inl e)) = fewer_first t s e
    not_longer l (inr (inr e)) = absurd (omega (arith, sizes_rise (suc (length s)) (length t) e, place_of_simplex k h))

    longer : first_place (suc (length s)) ≤ k → (length s < length t) ⊎ (length t ≤ length s) → colex s t ≡ Less
    longer l (inl e) = fewer_first s t e
    longer l (inr e) = absurd (omega (arith, place_below t (simplex_in_grid k h), sizes_rise (suc (length t)) (suc (length s)) (omega arith), place_of_simplex k h))

  later_outside : (bs : List ℕ) → length bs ≤ places → later colex s (masks_from 0 bs) ≡ masks_from (first_place (length s + 1)) (drop (first_place (length s + 1)) bs)
  later_outside bs room =
      let e : suc (length s) ≡ length s + 1 = omega arith in
      let four = (proper_parts s simplex).four in
      later_between s (first_place (suc (length s))) bs (sizes_rise (suc (length s)) 5 (omega arith)) room (λ k l h. not_longer k h l (cases_order _ _)) (λ k l h. longer k h l (cases_lt _ _))
      ∙ ap (λ j. masks_from (first_place j) (drop (first_place j) bs)) e

-- what is later than a simplex stands from the first place past it on
pub later_past : (s : List ℕ) → proper s ≡ true → (bs : List ℕ) → length bs ≤ places → later colex s (masks_from 0 bs) ≡ masks_from (past s) (drop (past s) bs)
later_past s simplex bs room = go (cases_Bool (below vertex_range s))
  where
    go : (below vertex_range s ≡ true) ⊎ (below vertex_range s ≡ false) → later colex s (masks_from 0 bs) ≡ masks_from (past s) (drop (past s) bs)
    go (inl e) =
        let g : InGrid s = record { simplex = simplex; ranged = e } in
        ap (λ t. later colex t (masks_from 0 bs)) (sym (simplex_of_place s g))
        ∙ later_place (place s) bs (place_in_grid s g) room
        ∙ ap (λ p. masks_from p (drop p bs)) (sym (cond-true _ _ _ e))
    go (inr e) = later_outside s simplex e bs room ∙ ap (λ p. masks_from p (drop p bs)) (sym (cond-false _ _ _ e))

-- what is out of range is not there
pub outside_absent : (n : ℕ) (M : Model) (s : List ℕ) → fits n M ≡ true → below n s ≡ false → lookup colex s M ≡ None
outside_absent n [] s f o = refl
outside_absent n (r ∷ rs) s f o = go (outside_absent n rs s (fit_parts n r rs f).rest o) (colex r.key s) refl
  where
    go : lookup colex s rs ≡ None → (a : Ordering) → colex r.key s ≡ a → by a (lookup colex s rs) (Some r.value) None ≡ None
    go more Less e = more
    go more Equal e = absurd (both_ways _ o (sym (ap (below n) (colex_exact r.key s e)) ∙ (fit_parts n r rs f).ranged))
    go more Greater e = refl

-- removing what is not there changes nothing
pub removing_absent : (M : Model) (s : List ℕ) → lookup colex s M ≡ None → write M s 0 ≡ M
removing_absent [] s h = refl
removing_absent (r ∷ rs) s h = go (removing_absent rs s) (colex r.key s) h
  where
    go : (lookup colex s rs ≡ None → put colex s None rs ≡ rs) → (a : Ordering) → by a (lookup colex s rs) (Some r.value) None ≡ None → by a (r ∷ put colex s None rs) rs (r ∷ rs) ≡ r ∷ rs
    go more Less e = ap (λ M. r ∷ M) (more e)
    go more Equal e = cc
    go more Greater e = refl
