use Rattle.std.proofs.Common.{◌≡◌, length}
use Rattle.collapse.specs.Split.{split}
use Rattle.simplex.specs.Simplexes.{vertices_or_none}
use Rattle.store.specs.Contents.{holding}
use Rattle.model.specs.Splits.{newest_pairs}
use Rattle.model.proofs.Splitting.{Underway, ahead}
use Rattle.model.proofs.merges.Merge.undo.Given as goal

abbrev pub invariant-loop-t : goal.invariant-loop-t
invariant-loop-t g l =
    (g.S.Store.contents l.store ≡ holding (g.S.Store.contents l.initial.store) (g.S.Store.contents l.store).model)
    × Underway l.self.u l.self.v (split l.self.u l.self.v (g.S.Store.contents l.initial.store).model (newest_pairs l.trail.notes)) (g.S.Store.contents l.store).model (newest_pairs l.trail.notes) (vertices_or_none l.at) l.i

abbrev pub decreases-loop-t : goal.decreases-loop-t
decreases-loop-t g l = length (ahead l.self.u l.self.v (g.S.Store.contents l.store).model (vertices_or_none l.at))
