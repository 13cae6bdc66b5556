use Rattle.std.proofs.Common.{drop, sym, ap, ◌∙◌}
use Rattle.order.specs.Assoc.{first, next}
use Rattle.complex.specs.Simplex.{colex}
use Rattle.simplex.specs.Simplexes.{vertices, vertices_or_none}
use Rattle.grid_store.specs.Masks.{grid_of, masks_from}
use Rattle.grid_store.specs.Stores.{contents}
use Rattle.grid_store.proofs.Changes.{grid_short}
use Rattle.grid_store.proofs.GridBytes.{later_past}
use Rattle.simplex.proofs.Corners.{vertices_proper}
use Rattle.grid_store.proofs.grid.methods.GridStoreStore.after.Goals as goal

pub returns-in-Some : goal.returns-in-Some
returns-in-Some c =
    let g = c.args.self.now in
    let s = c.in-Some.s in
    let grid = grid_of g.bytes.now in
    c.first_from.ensures
    ∙ ap (λ p. first (masks_from p (drop p grid))) c.past.ensures
    ∙ ap first (sym (later_past (vertices s) (vertices_proper s) grid (grid_short g)))
    ∙ ap (λ o. next colex (vertices_or_none o) (contents g).model) (sym c.in-Some.is)
