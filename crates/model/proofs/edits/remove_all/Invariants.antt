use Rattle.std.proofs.Common.{◌≡◌, length}
use Rattle.store.specs.Contents.{holding}
use Rattle.model.proofs.edits.remove_all.Given as goal

abbrev pub invariant-loop-s : goal.invariant-loop-s
invariant-loop-s g l = g.S.Store.contents l.store ≡ holding (g.S.Store.contents l.initial.store) (g.S.Store.contents l.store).model

abbrev pub decreases-loop-s : goal.decreases-loop-s
decreases-loop-s g l = length (g.S.Store.contents l.store).model
