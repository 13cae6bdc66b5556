use Rattle.complex.proofs.Told.{masks_tell}
use Rattle.complex.proofs.masks_tell_models.Goals as goal

pub returns : goal.returns
returns c = masks_tell
