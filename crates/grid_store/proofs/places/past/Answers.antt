-- A simplex in range stands at a place of the grid.
use Rattle.std.proofs.Common.{sym, ◌∙◌, arith}
use Rattle.simplex.specs.Simplexes.{vertices}
use Rattle.simplex.proofs.Corners.{vertices_proper}
use Rattle.grid_store.proofs.Order.{place_in_grid}
use Rattle.grid_store.proofs.places.past.Goals as goal

pub overflow_add-result : goal.overflow_add-result
overflow_add-result c =
    let ranged = sym c.within.ensures ∙ c.if-within.true in
    omega (arith, c.place.ensures, place_in_grid (vertices c.args.s.now) (record { simplex = vertices_proper c.args.s.now; ranged = ranged }))
