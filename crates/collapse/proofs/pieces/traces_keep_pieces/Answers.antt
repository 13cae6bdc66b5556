-- The law holds whatever the function does.
use Rattle.collapse.proofs.Traces.{traces_keep_pieces}
use Rattle.collapse.proofs.pieces.traces_keep_pieces.Goals as goal

pub returns : goal.returns
returns c = traces_keep_pieces
