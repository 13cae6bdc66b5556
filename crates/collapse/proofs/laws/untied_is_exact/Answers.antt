-- The law is the lemma.
use Rattle.collapse.proofs.Legals.{untied_is_exact}
use Rattle.collapse.proofs.laws.untied_is_exact.Goals as goal

pub returns : goal.returns
returns c = untied_is_exact
