use Rattle.std.proofs.Common.{length, get_or, unwrap_or, sym, ap, ◌∙◌, arith}
use Rattle.simplex.specs.Simplexes.{vertices}
use Rattle.grid_store.specs.Masks.{grid_of}
use Rattle.grid_store.proofs.Changes.{grid_short, grid_byte}
use Rattle.grid_store.proofs.Emptied.{limit_lent}
use Rattle.grid_store.proofs.GridBytes.{mask_byte}
use Rattle.grid_store.proofs.Placed.{placed_some, unplaced_absent}
use Rattle.grid_store.proofs.grid.methods.GridStoreStore.look.Goals as goal

pub bounds-self-p : goal.bounds-self-p
bounds-self-p c =
    let g = c.args.self.now in
    let at = placed_some g c.args.s.now c.in-Some.p c.in-Some.ensures in
    omega (arith, at.short, limit_lent (length g.bytes.now))

pub returns-in-Some : goal.returns-in-Some
returns-in-Some c =
    let g = c.args.self.now in
    let s = c.args.s.now in
    let grid = grid_of g.bytes.now in
    let at = placed_some g s c.in-Some.p c.in-Some.ensures in
    sym (grid_byte g c.in-Some.p at.short) ∙ ap (λ p. get_or grid p 0) at.is ∙ sym (mask_byte (vertices s) at.in_grid grid (grid_short g))

pub returns-in-None : goal.returns-in-None
returns-in-None c = ap (λ o. unwrap_or o 0) (sym (unplaced_absent c.args.self.now c.args.s.now c.in-None.ensures))
