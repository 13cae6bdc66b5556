-- What is left to fill lies within the buffer.
use Rattle.std.proofs.Common.{◌≤◌, length}
use Rattle.script.proofs.program.fill.Given as goal

abbrev pub invariant-loop-input : goal.invariant-loop-input
invariant-loop-input g l = length l.left ≤ l.most

abbrev pub decreases-loop-input : goal.decreases-loop-input
decreases-loop-input g l = length l.left
