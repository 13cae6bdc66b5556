-- The number stays small, and each turn reads a digit.
use Rattle.std.proofs.Common.{arith, rules}
use Rattle.script.proofs.Numbers.{sofar_small, digit_read}
use Rattle.script.proofs.lines.number.Goals as goal

pub overflow_mul-n : goal.overflow_mul-n
overflow_mul-n c = omega (arith, sofar_small _ _ _ c.loop-digit.invariant)

pub overflow_add-n : goal.overflow_add-n
overflow_add-n c = let small = sofar_small _ _ _ c.loop-digit.invariant in search rules

pub loop-digit-preserved : goal.loop-digit-preserved
loop-digit-preserved c = digit_read _ _ c.loop-digit.digit-index _ c.loop-digit-test.true (search rules) (search rules) c.loop-digit.invariant
