-- The law is the lemma.
use Rattle.collapse.proofs.Images.{image_masks}
use Rattle.collapse.proofs.laws.image_masks.Goals as goal

pub returns : goal.returns
returns c = image_masks
