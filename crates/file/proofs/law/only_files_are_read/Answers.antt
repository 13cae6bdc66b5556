-- The law holds whatever the function does.
use Rattle.file.proofs.Readable.{only_written_is_read}
use Rattle.file.proofs.law.only_files_are_read.Goals as goal

pub returns : goal.returns
returns c = only_written_is_read
