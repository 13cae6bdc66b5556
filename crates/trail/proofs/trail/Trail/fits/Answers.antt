-- Half of what is free beside head and foot is the most pairs.
use Rattle.std.proofs.Common.{sym, ap, ◌∙◌, arith}
use Rattle.std.proofs.lemmas.Bool.{lt-leb}
use Rattle.trail.specs.Notes.{has_room}
use Rattle.trail.proofs.Settled.{room_for_pairs, no_room_for_pairs}
use Rattle.trail.proofs.trail.Trail.fits.Goals as goal

pub returns-then-free : goal.returns-then-free
returns-then-free c = room_for_pairs _ _ c.self.invariant c.args.s (omega arith) ∙ ap (λ p. has_room p.notes c.args.s) c.self.view_is

pub returns-else-free : goal.returns-else-free
returns-else-free c =
    lt-leb _ _ (omega arith) ∙ sym (no_room_for_pairs _ _ c.self.invariant c.args.s (omega arith)) ∙ ap (λ p. has_room p.notes c.args.s) c.self.view_is
