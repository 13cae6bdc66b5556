-- The law is the lemma.
use Rattle.collapse.proofs.Made.{made_keeps}
use Rattle.collapse.proofs.laws.made_keeps.Goals as goal

pub returns : goal.returns
returns c = made_keeps
