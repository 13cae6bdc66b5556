-- The law holds whatever the function does.
use Rattle.file.proofs.Written.{written_is_read}
use Rattle.file.proofs.law.format_is_read.Goals as goal

pub returns : goal.returns
returns c = written_is_read
