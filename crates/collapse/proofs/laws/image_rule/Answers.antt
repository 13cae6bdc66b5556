-- The law is the lemma.
use Rattle.collapse.proofs.Images.{image_rule}
use Rattle.collapse.proofs.laws.image_rule.Goals as goal

pub returns : goal.returns
returns c = image_rule
