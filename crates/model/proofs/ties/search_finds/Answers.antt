use Rattle.model.proofs.Tying.{search_finds}
use Rattle.model.proofs.ties.search_finds.Goals as goal

pub returns : goal.returns
returns c = search_finds
