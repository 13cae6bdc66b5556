use Rattle.std.proofs.Common.{ap}
use Rattle.store.specs.Walk.{keys}
use Rattle.store.proofs.Walks.{all_later}
use Rattle.store.proofs.walk.Simplexes.of.Goals as goal

pub returns : goal.returns
returns g c =
    let store = c.args.store.now in
    ap keys (all_later (g.S.Store.contents store).range (g.S.Store.contents store).model (g.S.Store.stored store).fit)
