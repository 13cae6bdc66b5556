-- Without its last record a trail holds the earlier notes.
use Rattle.std.proofs.Common.{arith}
use Rattle.trail.specs.Questions.{earlier}
use Rattle.trail.proofs.Decoded.{formed_of, holds_of}
use Rattle.trail.proofs.Newest.{newest_room, before_newest}
use Rattle.trail.proofs.trail.Trail.forget.Goals as goal

pub record_length-requires : goal.record_length-requires
record_length-requires c =
    let room = newest_room _ _ c.self.invariant _ c.self.view_is c.in-Some.head c.in-Some.ensures in
    omega (arith, c.self.invariant.within)

pub overflow_sub-self : goal.overflow_sub-self
overflow_sub-self c =
    let room = newest_room _ _ c.self.invariant _ c.self.view_is c.in-Some.head c.in-Some.ensures in
    omega (arith, c.record_length.ensures)

pub invariant_of-self : goal.invariant_of-self
invariant_of-self c =
    let left = before_newest _ _ c.self.invariant _ c.self.view_is c.in-Some.head c.record_length.result c.in-Some.ensures c.record_length.ensures in
    record { size = c.self.invariant.size; within = omega (arith, c.self.invariant.within); formed = formed_of _ (earlier c.args.self.now.notes) left }

pub returns-in-Some : goal.returns-in-Some
returns-in-Some c =
    holds_of _ (earlier c.args.self.now.notes) (before_newest _ _ c.self.invariant _ c.self.view_is c.in-Some.head c.record_length.result c.in-Some.ensures c.record_length.ensures)
