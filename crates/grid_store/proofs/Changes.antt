-- A write at a place of the grid leaves a grid store a grid store.
use Rattle.std.proofs.Common.{◌≡◌, ℕ, zero, suc, ◌+◌, ◌<◌, ◌≤◌, true, false, eqb, ◌⊎◌, List, [], ◌∷◌, length, get_or, set, Some, None, Option, sym, refl, ap, ◌∙◌, inl, inr, arith}
use Rattle.std.proofs.lemmas.List.{get_or-take, length-take-le}
use Rattle.std.proofs.lemmas.Bool.{and_parts, and_from, cases_Bool, cond_both, eqb-false, lt-ltb}
use Rattle.order.specs.Assoc.{bind, weigh}
use Rattle.order.proofs.Maps.{length_is_total, total_put}
use Rattle.complex.specs.Model.{Model, present, write, Sorted}
use Rattle.complex.specs.Simplex.{colex}
use Rattle.complex.proofs.Order.{colex_lawful, colex_exact}
use Rattle.complex.proofs.Writes.{write_keeps_order}
use Rattle.store.specs.Contents.{fits}
use Rattle.grid_store.specs.declared.grid.GridStore.{GridStore}
use Rattle.grid_store.specs.Places.{vertex_range, places, simplex_at}
use Rattle.grid_store.specs.Masks.{counts, grid_of, masks_from}
use Rattle.grid_store.specs.Stores.{contents, contents_stored, limit_at_most, limit_of}
use Rattle.grid_store.proofs.Chosen.{simplex_in_grid}
use Rattle.grid_store.proofs.Emptied.{limit_lent}
use Rattle.grid_store.proofs.Fronts.{grid_of_write}
use Rattle.grid_store.proofs.Masks.{lookup_masks, put_masks}

counts_weighs : (s : List ℕ) (b : ℕ) → weigh (λ _ _. 1) s (present b) ≡ counts b
counts_weighs s b = go (cases_Bool (eqb b 0))
  where
    go : (eqb b 0 ≡ true) ⊎ (eqb b 0 ≡ false) → weigh (λ _ _. 1) s (present b) ≡ counts b
    go (inl e) = rw e refl
    go (inr e) = rw e refl

pub counts_one : (b : ℕ) → counts b ≤ 1
counts_one b = cond_both (eqb b 0) 0 1 (λ n. n ≤ 1) (λ _. omega arith) (λ _. omega arith)

-- a mask at a place of the grid, before a model that fits
bind_fits : (p m : ℕ) (M : Model) → p < places → m < 256 → fits vertex_range M ≡ true → fits vertex_range (bind (simplex_at p) (present m) M) ≡ true
bind_fits p m M l b f = go (cases_Bool (eqb m 0))
  where
    go : (eqb m 0 ≡ true) ⊎ (eqb m 0 ≡ false) → fits vertex_range (bind (simplex_at p) (present m) M) ≡ true
    go (inl e) = rw e f
    go (inr e) =
        let g = simplex_in_grid p l in
        let some : 0 < m = omega (arith, eqb-false m 0 e) in
        rw e (and_from _ _ (and_from _ _ g.simplex (and_from _ _ g.ranged (and_from _ _ (lt-ltb 0 m some) (lt-ltb m 256 b)))) f)

write_keeps_fit : (p i : ℕ) (bs : List ℕ) (m : ℕ) → p + length bs ≤ places → m < 256 → fits vertex_range (masks_from p bs) ≡ true → fits vertex_range (masks_from p (set bs i m)) ≡ true
write_keeps_fit p i [] m h b f = refl
write_keeps_fit p zero (x ∷ bs) m h b f = bind_fits p m (masks_from (suc p) bs) (omega arith) b (go (present x) f)
  where
    go : (o : Option ℕ) → fits vertex_range (bind (simplex_at p) o (masks_from (suc p) bs)) ≡ true → fits vertex_range (masks_from (suc p) bs) ≡ true
    go None f = f
    go (Some v) f = (and_parts _ _ f).1
write_keeps_fit p (suc i) (x ∷ bs) m h b f = go (present x) (write_keeps_fit (suc p) i bs m (omega arith) b) f
  where
    go : (o : Option ℕ) → (fits vertex_range (masks_from (suc p) bs) ≡ true → fits vertex_range (masks_from (suc p) (set bs i m)) ≡ true) →
        fits vertex_range (bind (simplex_at p) o (masks_from (suc p) bs)) ≡ true → fits vertex_range (bind (simplex_at p) o (masks_from (suc p) (set bs i m))) ≡ true
    go None more f = more f
    go (Some v) more f = and_from _ _ (and_parts _ _ f).0 (more (and_parts _ _ f).1)

module _ (g : GridStore) where
  abbrev grid : List ℕ
  grid = grid_of g.bytes.now

  pub grid_length : length grid ≡ limit_of g
  grid_length = length-take-le (limit_of g) g.bytes.now (omega (arith, limit_lent (length g.bytes.now)))

  pub grid_short : length grid ≤ places
  grid_short = omega (arith, grid_length, limit_at_most (length g.bytes.now))

  pub grid_byte : (p : ℕ) → p < limit_of g → get_or grid p 0 ≡ get_or g.bytes.now p 0
  grid_byte p l = get_or-take (limit_of g) g.bytes.now p 0 l

  pub held_short : g.held ≤ places
  held_short = omega (arith, g.counted, (contents_stored g).room, (contents_stored g).few)

  module _ (p m : ℕ) (l : p < limit_of g) where
    abbrev written : Model
    written = masks_from 0 (grid_of (set g.bytes.now p m))

    written_front : written ≡ masks_from 0 (set grid p m)
    written_front = ap (masks_from 0) (grid_of_write g.bytes.now p m)

    written_is : written ≡ write (contents g).model (simplex_at p) m
    written_is = written_front ∙ sym (put_masks 0 p p grid m (omega arith) (omega (arith, grid_length)) (omega (arith, grid_short)))

    pub written_count : length written + counts (get_or g.bytes.now p 0) ≡ g.held + counts m
    written_count =
        let M = (contents g).model in
        let s = simplex_at p in
        let before = lookup_masks 0 p p grid (omega arith) (omega (arith, grid_length, grid_short)) (omega (arith, grid_short)) ∙ ap present (grid_byte p l) in
        let old = ap (weigh (λ _ _. 1) s) before ∙ counts_weighs s (get_or g.bytes.now p 0) in
        let sums = total_put colex colex_lawful colex_exact (λ _ _. 1) M s (present m) g.sorted in
        omega (arith, sums, old, counts_weighs s m, g.counted, ap length written_is, length_is_total M, length_is_total (write M s m))

    pub written_sorted : Sorted written
    written_sorted = rw written_is (write_keeps_order (contents g).model (simplex_at p) m g.sorted)

    pub written_fits : m < 256 → fits vertex_range written ≡ true
    written_fits b = ap (fits vertex_range) written_front ∙ write_keeps_fit 0 p grid m (omega (arith, grid_short)) b g.fit
