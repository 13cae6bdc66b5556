use Rattle.complex.specs.Simplex.{plus}
use Rattle.simplex.specs.Simplexes.{vertices_or_none}
use Rattle.model.proofs.Ahead.{five_absent}
use Rattle.history.proofs.Fitted.{fits_shaped}
use Rattle.model.proofs.plus.mask_with.Goals as goal

pub returns-in-None : goal.returns-in-None
returns-in-None g c =
    let now = g.S.Store.contents c.args.store.now in
    five_absent now.model (plus c.args.x (vertices_or_none c.args.base)) (fits_shaped now.range now.model (g.S.Store.stored c.args.store.now).fit) c.in-None.ensures
