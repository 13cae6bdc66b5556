use Rattle.std.proofs.Common.{length}
use Rattle.model.proofs.Noted.{Noted, left_over}
use Rattle.model.proofs.merges.Merge.note.Given as goal

abbrev pub invariant-loop-base : goal.invariant-loop-base
invariant-loop-base g l = Noted l.u l.v (g.S.Store.contents l.store).model l.initial.trail l.trail l.n l.over_u l.over_v

abbrev pub decreases-loop-base : goal.decreases-loop-base
decreases-loop-base g l = length (left_over l.u l.v (g.S.Store.contents l.store).model l.over_u l.over_v)
