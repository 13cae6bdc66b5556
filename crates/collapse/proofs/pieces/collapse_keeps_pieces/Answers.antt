-- The law holds whatever the function does.
use Rattle.collapse.proofs.Chains.{collapse_keeps_pieces}
use Rattle.collapse.proofs.pieces.collapse_keeps_pieces.Goals as goal

pub returns : goal.returns
returns c = collapse_keeps_pieces
