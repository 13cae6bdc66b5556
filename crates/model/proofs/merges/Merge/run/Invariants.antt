use Rattle.std.proofs.Common.{◌≡◌}
use Rattle.simplex.specs.Simplexes.{vertices_or_none}
use Rattle.store.specs.Contents.{holding}
use Rattle.model.proofs.Merging.{Underway, left_to_do}
use Rattle.model.proofs.merges.Merge.run.Given as goal

abbrev pub invariant-loop-t : goal.invariant-loop-t
invariant-loop-t g l =
    (g.S.Store.contents l.store ≡ holding (g.S.Store.contents l.initial.store) (g.S.Store.contents l.store).model)
    × Underway l.self.u l.self.v (g.S.Store.contents l.initial.store).model (g.S.Store.contents l.store).model (vertices_or_none l.at)

abbrev pub decreases-loop-t : goal.decreases-loop-t
decreases-loop-t g l = left_to_do l.self.v (vertices_or_none l.at) (g.S.Store.contents l.store)
