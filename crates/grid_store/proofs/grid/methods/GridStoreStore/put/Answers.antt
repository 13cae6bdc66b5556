-- A put that is accepted writes the mask where the grid has a place, and elsewhere removes what is not held.
use Rattle.std.proofs.Common.{ap, ◌∙◌}
use Rattle.grid_store.specs.Masks.{contents_over}
use Rattle.grid_store.proofs.Placed.{placed_some, placed_written, unplaced_kept}
use Rattle.grid_store.proofs.grid.methods.GridStoreStore.put.Goals as goal

pub write-requires : goal.write-requires
write-requires c = (placed_some c.args.self.now c.args.s c.in-Some.p c.in-Some.ensures).short

pub returns-in-Some-clause-after : goal.returns-in-Some-clause-after
returns-in-Some-clause-after c =
    ap contents_over c.write.ensures.bytes ∙ placed_written c.args.self.now c.args.s c.in-Some.p c.in-Some.ensures c.args.mask c.in_ok-admit.ensures

pub returns-in_default-clause-after : goal.returns-in_default-clause-after
returns-in_default-clause-after c = unplaced_kept c.args.self.now c.args.s c.in_default.ensures c.args.mask c.in_ok-admit.ensures
