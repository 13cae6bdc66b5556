use Rattle.model.proofs.Counted.{Counting}
use Rattle.model.proofs.questions.euler.Given as goal

abbrev pub invariant-loop-s : goal.invariant-loop-s
invariant-loop-s g l = Counting l.part.number (g.S.Store.contents l.store).model l.s-iterator l.up l.down
