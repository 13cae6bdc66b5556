-- A pair is written behind the last record.
use Rattle.std.proofs.Common.{◌+◌, sym, ◌∙◌, arith}
use Rattle.trail.proofs.Pending.{room_there, pair_written}
use Rattle.trail.proofs.trail.Trail.note_pair.Goals as goal

pub overwrite-requires : goal.overwrite-requires
overwrite-requires c =
    let room = room_there _ _ c.self.invariant _ c.self.view_is (c.args.i + 1) (sym c.fits.ensures ∙ c.if-not-fits.false) in
    omega (arith, c.self.invariant.size)

pub returns-clause-pairs : goal.returns-clause-pairs
returns-clause-pairs c =
    pair_written _ _ c.self.invariant _ c.self.view_is c.overwrite.new.bytes c.args.i c.args.a c.args.b (sym c.fits.ensures ∙ c.if-not-fits.false) c.overwrite.ensures
