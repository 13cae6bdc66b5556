-- The law is the lemma.
use Rattle.collapse.proofs.Eulers.{collapse_keeps_euler}
use Rattle.collapse.proofs.laws.collapse_keeps_euler.Goals as goal

pub returns : goal.returns
returns c = collapse_keeps_euler
