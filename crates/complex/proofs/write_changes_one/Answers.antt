use Rattle.complex.proofs.Told.{writes_change_one}
use Rattle.complex.proofs.write_changes_one.Goals as goal

pub returns : goal.returns
returns c = writes_change_one
