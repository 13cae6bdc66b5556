use Rattle.std.proofs.Common.{sym}
use Rattle.simplex.specs.Simplexes.{vertices}
use Rattle.model.proofs.Merging.{merges_one}
use Rattle.model.proofs.merges.Merge.merge_one.Goals as goal

pub returns-then-not-has : goal.returns-then-not-has
returns-then-not-has g c =
    merges_one (g.S.Store.contents c.args.store.now) (g.S.Store.contents c.put.new.self) (g.S.Store.contents c.put-then-not-has.new.self) c.args.self.u c.args.self.v (vertices c.args.t.now) (vertices c.replaced-moved.result) c.look-mask.result c.look.result
    (g.S.Store.stored c.args.store.now) c.requires.range c.requires.held (sym c.if-not-has.ensures) c.put.ensures.after c.replaced-moved.ensures c.look-mask.ensures c.look.ensures c.put-then-not-has.ensures.after
