-- The record made is the newest.
use Rattle.std.proofs.Common.{◌∷◌, take, sym, ◌∙◌, arith}
use Rattle.trail.specs.Notes.{note}
use Rattle.trail.specs.Decoding.{notes_of}
use Rattle.trail.specs.Past.{past_of, pending}
use Rattle.trail.proofs.Decoded.{formed_of}
use Rattle.trail.proofs.Pending.{room_there, one_more_note, record_committed}
use Rattle.trail.proofs.trail.Trail.commit.Goals as goal

pub enclose-requires-clause-room : goal.enclose-requires-clause-room
enclose-requires-clause-room c =
    let room = room_there _ _ c.self.invariant _ c.self.view_is c.args.head.s (sym c.fits.ensures ∙ c.if-not-fits.false) in
    omega (arith, c.self.invariant.size)

pub invariant_of-self : goal.invariant_of-self
invariant_of-self c =
    let room = room_there _ _ c.self.invariant _ c.self.view_is c.args.head.s (sym c.fits.ensures ∙ c.if-not-fits.false) in
    let made = one_more_note _ _ c.self.invariant _ c.self.view_is c.enclose.new.bytes c.args.head c.record_length-length.result c.record_length-length.ensures c.enclose.ensures in
    record {
      size = c.enclose.auto.bytes ∙ c.self.invariant.size;
      within = omega (arith, c.record_length-length.ensures);
      formed = formed_of _ (note c.args.head.u c.args.head.v (pending (past_of c.self.inside.bytes c.self.inside.used) c.args.head.s) ∷ notes_of (take c.self.inside.used c.self.inside.bytes)) made;
    }

pub returns : goal.returns
returns c =
    record_committed _ _ c.self.invariant _ c.self.view_is c.enclose.new.bytes c.args.head c.record_length-length.result c.record_length-length.ensures c.enclose.ensures (sym c.fits.ensures ∙ c.if-not-fits.false)
