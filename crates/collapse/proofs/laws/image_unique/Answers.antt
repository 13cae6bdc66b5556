-- The law is the lemma.
use Rattle.collapse.proofs.Images.{image_unique}
use Rattle.collapse.proofs.laws.image_unique.Goals as goal

pub returns : goal.returns
returns c = image_unique
