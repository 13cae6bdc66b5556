use Rattle.std.proofs.Common.{◌≡◌}
use Rattle.model.specs.Parts.{parts_left}
use Rattle.model.specs.Ties.{shows, tie_in, tie}
use Rattle.model.proofs.Failing.{first_among, tie_among}
use Rattle.model.proofs.merges.Merge.find_tie.Given as goal

abbrev pub invariant-loop-s : goal.invariant-loop-s
invariant-loop-s g l =
    first_among l.self.u (shows l.part.number l.self.u l.self.v (g.S.Store.contents l.store).model) l.s-iterator ≡ tie_in l.part.number l.self.u l.self.v (g.S.Store.contents l.store).model

abbrev pub invariant-loop-part : goal.invariant-loop-part
invariant-loop-part g l = tie_among (parts_left l.part-iterator) l.self.u l.self.v (g.S.Store.contents l.store).model ≡ tie l.self.u l.self.v (g.S.Store.contents l.store).model
