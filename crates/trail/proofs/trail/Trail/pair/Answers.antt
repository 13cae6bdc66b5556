-- The pairs stand before the number at the end.
use Rattle.std.proofs.Common.{arith}
use Rattle.trail.proofs.Newest.{newest_room, pair_is_read}
use Rattle.trail.proofs.trail.Trail.pair.Goals as goal

pub overflow_mul-at : goal.overflow_mul-at
overflow_mul-at c =
    let room = newest_room _ _ c.self.invariant _ c.self.view_is c.in-Some.head c.in-Some.ensures in
    omega (arith, c.self.invariant.within)

pub overflow_sub-at-in-Some-2 : goal.overflow_sub-at-in-Some-2
overflow_sub-at-in-Some-2 c =
    let room = newest_room _ _ c.self.invariant _ c.self.view_is c.in-Some.head c.in-Some.ensures in
    omega arith

pub returns-in-Some : goal.returns-in-Some
returns-in-Some c =
    pair_is_read _ _ c.self.invariant _ c.self.view_is c.in-Some.head c.args.i c.in-Some.ensures c.if-i-head.true
