-- The law is the lemma.
use Rattle.collapse.proofs.Legals.{collapse_keeps_legal}
use Rattle.collapse.proofs.laws.collapse_keeps_legal.Goals as goal

pub returns : goal.returns
returns c = collapse_keeps_legal
