-- The law holds whatever the function does.
use Rattle.trail.proofs.Decoded.{notes_come_back}
use Rattle.trail.proofs.law.notes_come_back.Goals as goal

pub returns : goal.returns
returns c = notes_come_back
