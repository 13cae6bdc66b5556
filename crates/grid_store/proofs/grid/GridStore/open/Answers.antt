-- An opened grid holds nothing.
use Rattle.std.proofs.Common.{◌≡◌, [], ◌++◌, length, drop, sym, ap, ◌∙◌, rules}
use Rattle.order.specs.Assoc.{rising}
use Rattle.complex.specs.Simplex.{colex}
use Rattle.store.specs.Contents.{fits}
use Rattle.grid_store.specs.Places.{vertex_range}
use Rattle.grid_store.specs.Masks.{emptied, grid_of, masks_from}
use Rattle.grid_store.proofs.Emptied.{emptied_grid_holds_nothing}
use Rattle.grid_store.proofs.grid.GridStore.open.Goals as goal
use Rattle.grid_store.proofs.grid.GridStore.open.Goals.{After-slice_known-2-1}

empty : (c : After-slice_known-2-1) → masks_from 0 (grid_of (c.fill.new.self ++ drop c.limit_over-limit.result c.args.bytes.now)) ≡ []
empty c =
    let bytes = c.args.bytes.now in
    let filled : c.fill.new.self ++ drop c.limit_over-limit.result bytes ≡ emptied bytes = search rules in
    ap (λ bs. masks_from 0 (grid_of bs)) filled ∙ emptied_grid_holds_nothing bytes

pub invariant_of-result : goal.invariant_of-result
invariant_of-result c = record {
  counted = sym (ap length (empty c));
  sorted = ap (rising colex) (empty c);
  fit = ap (fits vertex_range) (empty c);
}
