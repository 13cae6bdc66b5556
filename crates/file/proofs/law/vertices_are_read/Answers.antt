-- The law holds whatever the function does.
use Rattle.file.proofs.Written.{vertices_come_back}
use Rattle.file.proofs.law.vertices_are_read.Goals as goal

pub returns : goal.returns
returns c = vertices_come_back
