use Rattle.std.proofs.Common.{◌≡◌, length}
use Rattle.model.specs.Calls.{emptied}
use Rattle.file.specs.Load.{loaded}
use Rattle.file.specs.Outcome.{outcomes}
use Rattle.file.specs.Reading.{to_come}
use Rattle.file.proofs.load.take_all.Given as goal

abbrev pub invariant-loop-next : goal.invariant-loop-next
invariant-loop-next g l =
    (loaded (g.S.Store.contents l.draft.store) (to_come l.next-iterator) ≡ loaded (g.S.Store.contents l.initial.draft.store) (outcomes l.file))
    × (emptied (g.S.Store.contents l.draft.store) ≡ emptied (g.S.Store.contents l.initial.draft.store))

abbrev pub decreases-loop-next : goal.decreases-loop-next
decreases-loop-next g l = length (to_come l.next-iterator)
