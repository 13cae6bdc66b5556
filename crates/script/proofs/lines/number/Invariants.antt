-- The number so far, and the digits that are left.
use Rattle.std.proofs.Common.{drop}
use Rattle.script.proofs.Numbers.{Sofar}
use Rattle.script.proofs.lines.number.Given as goal

abbrev pub invariant-loop-digit : goal.invariant-loop-digit
invariant-loop-digit l = Sofar l.digits l.n (drop l.digit-index l.digits)
