-- The law holds whatever the function does.
use Rattle.collapse.proofs.Cones.{extended_link}
use Rattle.collapse.proofs.extended.extended_link.Goals as goal

pub returns : goal.returns
returns c = extended_link
