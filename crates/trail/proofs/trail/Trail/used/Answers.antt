-- The records take the bytes in use.
use Rattle.std.proofs.Common.{sym, arith, length-drop}
use Rattle.trail.proofs.Settled.{room_is_used}
use Rattle.trail.proofs.trail.Trail.used.Goals as goal

pub returns : goal.returns
returns c =
    let taken = room_is_used _ _ c.self.invariant in
    let left = length-drop c.self.inside.used c.self.inside.bytes in
    rw (← c.self.view_is) (record { value = sym taken; whole = omega (arith, c.self.invariant.size, c.self.invariant.within) })
