use Rattle.std.proofs.Common.{sym, ap, ◌∙◌}
use Rattle.complex.proofs.Faces.{rises_rising}
use Rattle.simplex.specs.Simplexes.{vertices, vertices_or_none}
use Rattle.store.specs.Contents.{holding}
use Rattle.model.proofs.Merging.{next_held, passes, merged_on, done, passing_leaves_less, merging_leaves_less}
use Rattle.model.proofs.merges.Merge.run.Goals as goal

pub merge_one-requires-clause-held : goal.merge_one-requires-clause-held
merge_one-requires-clause-held g c =
    next_held (g.S.Store.contents c.loop-t.store) (vertices_or_none c.loop-t.at) (vertices c.in-Some.t) (g.S.Store.stored c.loop-t.store) c.in-Some.ensures

pub loop-t-smaller-then-has : goal.loop-t-smaller-then-has
loop-t-smaller-then-has g c =
    let now = g.S.Store.contents c.loop-t.store in
    let st = g.S.Store.stored c.loop-t.store in
    let at = vertices_or_none c.loop-t.at in
    let t = vertices c.in-Some.t in
    merging_leaves_less now (g.S.Store.contents c.merge_one.new.store) c.args.self.u c.args.self.v at t c.requires.distinct st (g.S.Store.stored c.merge_one.new.store) (rises_rising t c.in-Some.t.rising) (sym c.if-has.ensures) (next_held now at t st c.in-Some.ensures) c.merge_one.ensures

pub loop-t-preserved-then-has : goal.loop-t-preserved-then-has
loop-t-preserved-then-has g c =
    let start = g.S.Store.contents c.args.store.now in
    let now = g.S.Store.contents c.loop-t.store in
    let t = vertices c.in-Some.t in
    merged_on start now (g.S.Store.contents c.merge_one.new.store) c.args.self.u c.args.self.v (vertices_or_none c.loop-t.at) t c.requires.distinct (g.S.Store.stored c.loop-t.store) (rises_rising t c.in-Some.t.rising) (sym c.if-has.ensures) c.in-Some.ensures c.loop-t.invariant.0 c.loop-t.invariant.1 c.merge_one.ensures

pub loop-t-smaller : goal.loop-t-smaller
loop-t-smaller g c =
    let now = g.S.Store.contents c.loop-t.store in
    passing_leaves_less now c.args.self.v (vertices_or_none c.loop-t.at) (vertices c.in-Some.t) (g.S.Store.stored c.loop-t.store) c.in-Some.ensures

pub loop-t-preserved : goal.loop-t-preserved
loop-t-preserved g c =
    let start = g.S.Store.contents c.args.store.now in
    let now = g.S.Store.contents c.loop-t.store in
    (c.loop-t.invariant.0, passes c.args.self.u c.args.self.v start.model now.model (vertices_or_none c.loop-t.at) (vertices c.in-Some.t) c.loop-t.invariant.1 c.in-Some.ensures (sym c.if-has.ensures))

pub returns : goal.returns
returns g c =
    let start = g.S.Store.contents c.args.store.now in
    let now = g.S.Store.contents c.loop-t.store in
    c.loop-t.invariant.0
    ∙ ap (holding start) (done start now c.args.self.u c.args.self.v (vertices_or_none c.loop-t.at) c.requires.distinct c.requires.legal (g.S.Store.stored c.args.store.now) (g.S.Store.stored c.loop-t.store) c.loop-t.invariant.1 c.in_default.ensures)
