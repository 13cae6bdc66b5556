use Rattle.complex.proofs.Told.{order_told}
use Rattle.complex.proofs.order_as_told.Goals as goal

pub returns : goal.returns
returns c = order_told
