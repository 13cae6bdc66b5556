-- The law is the lemma.
use Rattle.collapse.proofs.Splits.{split_inverts}
use Rattle.collapse.proofs.laws.split_inverts.Goals as goal

pub returns : goal.returns
returns c = split_inverts
