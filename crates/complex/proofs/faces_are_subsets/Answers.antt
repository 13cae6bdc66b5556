use Rattle.complex.proofs.Told.{faces_told}
use Rattle.complex.proofs.faces_are_subsets.Goals as goal

pub returns : goal.returns
returns c = faces_told
