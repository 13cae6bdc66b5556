-- The simplexes for which a grid store has a place, and those that it never holds.
use Rattle.std.proofs.Common.{◌≡◌, ℕ, ◌<◌, Bool, true, false, cond, not, ◌&&◌, eqb, ltb, ◌⊎◌, List, [], length, take, set, Some, None, Ok, Err, Result, sym, refl, ap, ◌∙◌, inl, inr, arith}
use Rattle.std.proofs.lemmas.List.{length-set}
use Rattle.std.proofs.lemmas.Bool.{and_parts, and_cases, and_from, both_ways, cond_both, cond-true, eq-eqb, eqb-true, ltb-true, ltb-false}
use Rattle.order.specs.Assoc.{lookup}
use Rattle.complex.specs.Model.{mask, write}
use Rattle.complex.specs.Simplex.{colex, below}
use Rattle.simplex.specs.declared.simplex.Simplex.{Simplex}
use Rattle.simplex.specs.Simplexes.{vertices}
use Rattle.simplex.proofs.Corners.{vertices_proper}
use Rattle.store.specs.Contents.{Contents, holding}
use Rattle.store.specs.Puts.{put_answer, put_next, settled}
use Rattle.store.specs.declared.refusal.StoreRefusal.{StoreRefusal}
use Rattle.store.specs.declared.refusal.StoreRefusal.TheVariants.{Range, Full}
use Rattle.grid_store.specs.declared.grid.GridStore.{GridStore}
use Rattle.grid_store.specs.Places.{vertex_range, places, place}
use Rattle.grid_store.specs.Masks.{masks_from, grid_of, limit_over, placed, contents_over}
use Rattle.grid_store.specs.Stores.{contents, limit_of}
use Rattle.grid_store.proofs.Changes.{grid_length, grid_short}
use Rattle.grid_store.proofs.Fronts.{grid_of_write}
use Rattle.grid_store.proofs.GridBytes.{write_byte, outside_absent, removing_absent}
use Rattle.grid_store.specs.Laws.{InGrid}
use Rattle.grid_store.proofs.Order.{place_in_grid}

some_where_true : (b : Bool) (x y : ℕ) → Some y ≡ cond b (Some x) None → (b ≡ true) × (y ≡ x)
some_where_true true x y h = (refl, cc)
some_where_true false x y h = (cc, cc)

none_where_false : (b : Bool) (x : ℕ) → None ≡ cond b (Some x) None → b ≡ false
none_where_false true x h = cc
none_where_false false x h = refl

abbrev answer : Bool → Bool → Bool → Result (Unit {0}) StoreRefusal
answer removing ranged full = cond removing (Ok tt) (cond (not ranged) (Err Range) (cond full (Err Full) (Ok tt)))

accepted_parts : (removing ranged full : Bool) → answer removing ranged full ≡ Ok tt → (removing ≡ true) ⊎ ((ranged ≡ true) × (full ≡ false))
accepted_parts true ranged full h = inl refl
accepted_parts false true true h = inl (cc)
accepted_parts false true false h = inr (refl, refl)
accepted_parts false false full h = inl (cc)

-- an accepted put leaves the simplex with its mask
put_accepted : (c : Contents) (s : List ℕ) (m : ℕ) → Ok tt ≡ put_answer c s m → holding c (write c.model s m) ≡ put_next c s m
put_accepted c s m h = ap (λ a. settled a c (holding c (write c.model s m))) h

-- a write at a place of the grid changes what is held alone
contents_written : (bs : List ℕ) (p m : ℕ) → contents_over (set bs p m) ≡ holding (contents_over bs) (masks_from 0 (set (grid_of bs) p m))
contents_written bs p m =
    let model = ap (masks_from 0) (grid_of_write bs p m) in
    let limit = ap limit_over (length-set bs p m) in
    (λ d. record { model = model d; limit = limit d; range = vertex_range })

module _ (g : GridStore) (s : Simplex) where
  abbrev bytes : List ℕ
  bytes = g.bytes.now

  pub record Placed (p : ℕ) : Type 0 where
    pub in_grid : InGrid (vertices s)
    pub is : p ≡ place (vertices s)
    pub short : p < limit_of g

  -- a limit other than 0 is the number of places
  whole_limit : 0 < limit_of g → limit_of g ≡ places
  whole_limit l =
      cond_both (ltb (length bytes) places) 0 places (λ n. n ≡ places)
      (λ e. absurd (omega (arith, cond-true (ltb (length bytes) places) 0 places e))) (λ _. refl)

  pub placed_some : (p : ℕ) → Some p ≡ placed (limit_of g) (vertices s) → Placed p
  placed_some p h =
      let b = some_where_true (ltb 0 (limit_of g) && below vertex_range (vertices s)) (place (vertices s)) p h in
      let q = and_parts (ltb 0 (limit_of g)) (below vertex_range (vertices s)) b.0 in
      let w : InGrid (vertices s) = record { simplex = vertices_proper s; ranged = q.1 } in
      let l = place_in_grid (vertices s) w in
      record { in_grid = w; is = b.1; short = omega (arith, b.1, l, whole_limit (ltb-true 0 (limit_of g) q.0)) }

  module _ (none : None ≡ placed (limit_of g) (vertices s)) where
    unplaced : (ltb 0 (limit_of g) ≡ false) ⊎ (below vertex_range (vertices s) ≡ false)
    unplaced = and_cases (ltb 0 (limit_of g)) (below vertex_range (vertices s)) (none_where_false _ (place (vertices s)) none)

    -- nothing is held where there is no memory
    nothing_held : ltb 0 (limit_of g) ≡ false → (contents g).model ≡ []
    nothing_held e =
        let z : limit_of g ≡ 0 = omega (arith, ltb-false 0 (limit_of g) e) in
        ap (λ n. masks_from 0 (take n bytes)) z

    pub unplaced_absent : lookup colex (vertices s) (contents g).model ≡ None
    unplaced_absent = go unplaced
      where
        go : (ltb 0 (limit_of g) ≡ false) ⊎ (below vertex_range (vertices s) ≡ false) → lookup colex (vertices s) (contents g).model ≡ None
        go (inl e) = ap (lookup colex (vertices s)) (nothing_held e)
        go (inr e) = outside_absent vertex_range (contents g).model (vertices s) g.fit e

    -- so that only a removal is accepted
    unplaced_removed : (m : ℕ) → put_answer (contents g) (vertices s) m ≡ Ok tt → m ≡ 0
    unplaced_removed m h = go (accepted_parts (eqb m 0) (below vertex_range (vertices s)) _ h) unplaced
      where
        full : ltb 0 (limit_of g) ≡ false → (eqb (mask (contents g).model (vertices s)) 0 && eqb (length (contents g).model) (limit_of g)) ≡ true
        full e =
            let none = nothing_held e in
            and_from _ _ (eq-eqb _ 0 (ap (λ M. mask M (vertices s)) none)) (eq-eqb _ _ (ap length none ∙ omega (arith, ltb-false 0 (limit_of g) e)))

        go : (eqb m 0 ≡ true) ⊎ ((below vertex_range (vertices s) ≡ true) × ((eqb (mask (contents g).model (vertices s)) 0 && eqb (length (contents g).model) (limit_of g)) ≡ false)) →
            (ltb 0 (limit_of g) ≡ false) ⊎ (below vertex_range (vertices s) ≡ false) → m ≡ 0
        go (inl e) u = eqb-true m 0 e
        go (inr p) (inl e) = absurd (both_ways _ p.1 (full e))
        go (inr p) (inr o) = absurd (both_ways _ o p.0)

    -- and changes nothing
    pub unplaced_kept : (m : ℕ) → Ok tt ≡ put_answer (contents g) (vertices s) m → contents g ≡ put_next (contents g) (vertices s) m
    unplaced_kept m h =
        let M = (contents g).model in
        ap (holding (contents g)) (sym (ap (write M (vertices s)) (unplaced_removed m (sym h)) ∙ removing_absent M (vertices s) unplaced_absent))
        ∙ put_accepted (contents g) (vertices s) m h

  -- a write at its place gives a simplex its mask
  pub placed_written : (p : ℕ) → Some p ≡ placed (limit_of g) (vertices s) → (m : ℕ) → Ok tt ≡ put_answer (contents g) (vertices s) m → contents_over (set bytes p m) ≡ put_next (contents g) (vertices s) m
  placed_written p h m a =
      let at = placed_some p h in
      let grid = grid_of bytes in
      let short : place (vertices s) < length grid = omega (arith, at.is, at.short, grid_length g) in
      ap (λ q. contents_over (set bytes q m)) at.is
      ∙ contents_written bytes (place (vertices s)) m
      ∙ ap (holding (contents g)) (write_byte (vertices s) at.in_grid grid (grid_short g) m short)
      ∙ put_accepted (contents g) (vertices s) m a
