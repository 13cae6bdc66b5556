use Rattle.complex.specs.Simplex.{plus}
use Rattle.simplex.specs.Simplexes.{vertices_or_none}
use Rattle.model.proofs.Splitting.{not_fitted, five_absent}
use Rattle.model.proofs.splits.put_with.Goals as goal

pub returns-in_default : goal.returns-in_default
returns-in_default g c =
    let before = g.S.Store.contents c.args.store.now in
    let k = plus c.args.x (vertices_or_none c.args.base) in
    five_absent before k c.args.mask (g.S.Store.stored c.args.store.now) c.requires (not_fitted k c.in_default.ensures)
