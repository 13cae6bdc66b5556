use Rattle.std.proofs.Common.{refl, ap, ◌∙◌, arith}
use Rattle.complex.proofs.Faces.{rises_rising}
use Rattle.collapse.specs.Split.{split}
use Rattle.simplex.specs.Simplexes.{vertices, vertices_or_none}
use Rattle.store.specs.Contents.{holding}
use Rattle.model.specs.Splits.{newest_pairs}
use Rattle.model.proofs.Splitting.{Turn, starts, sided_is_next, few_pairs, none_ahead, pair_at, turn_meets, turn_splits, turn_counts, turn_keeps, turn_goes_on, turn_shorter}
use Rattle.model.proofs.merges.Merge.undo.Goals as goal

pub loop-t-init : goal.loop-t-init
loop-t-init g c =
    let before = g.S.Store.contents c.args.store.now in
    let ps = newest_pairs c.args.trail.now.notes in
    (refl, starts c.args.self.u c.args.self.v before ps (split c.args.self.u c.args.self.v before.model ps) c.requires (g.S.Store.stored c.args.store.now))

pub undo_one-requires : goal.undo_one-requires
undo_one-requires g c =
    let before = g.S.Store.contents c.args.store.now in
    let ps = newest_pairs c.args.trail.now.notes in
    let M = split c.args.self.u c.args.self.v before.model ps in
    let turn : Turn c.args.self.u c.args.self.v before (g.S.Store.contents c.loop-t.store) ps M (vertices_or_none c.loop-t.at) (vertices c.in-Some.t) c.loop-t.i c.pair.result = record {
      undoes = c.requires;
      same = c.loop-t.invariant.0;
      stored = g.S.Store.stored c.loop-t.store;
      way = c.loop-t.invariant.1;
      found = c.in-Some.ensures ∙ sided_is_next c.args.self.u c.args.self.v (g.S.Store.contents c.loop-t.store).model (g.S.Store.stored c.loop-t.store).sorted (vertices_or_none c.loop-t.at);
      pair = c.pair.ensures ∙ pair_at c.args.trail.now.notes c.loop-t.i;
    } in
    record { meets = turn_meets _ _ _ _ _ _ _ _ _ _ turn; splits = turn_splits _ _ _ _ _ _ _ _ _ _ turn }

-- the turn that was made
made : (g : _) (c : goal.After-undo_one g) →
    Turn c.args.self.u c.args.self.v (g.S.Store.contents c.args.store.now) (g.S.Store.contents c.loop-t.store) (newest_pairs c.args.trail.now.notes) (split c.args.self.u c.args.self.v (g.S.Store.contents c.args.store.now).model (newest_pairs c.args.trail.now.notes)) (vertices_or_none c.loop-t.at) (vertices c.in-Some.t) c.loop-t.i c.pair.result
made g c = record {
  undoes = c.requires;
  same = c.loop-t.invariant.0;
  stored = g.S.Store.stored c.loop-t.store;
  way = c.loop-t.invariant.1;
  found = c.in-Some.ensures ∙ sided_is_next c.args.self.u c.args.self.v (g.S.Store.contents c.loop-t.store).model (g.S.Store.stored c.loop-t.store).sorted (vertices_or_none c.loop-t.at);
  pair = c.pair.ensures ∙ pair_at c.args.trail.now.notes c.loop-t.i;
}

pub overflow_add-i : goal.overflow_add-i
overflow_add-i g c =
    let before = g.S.Store.contents c.args.store.now in
    let ps = newest_pairs c.args.trail.now.notes in
    let few = few_pairs c.args.self.u c.args.self.v before ps (split c.args.self.u c.args.self.v before.model ps) c.requires (g.S.Store.stored c.args.store.now) in
    let counts = turn_counts _ _ _ _ _ _ _ _ _ _ (made g c) in
    omega arith

pub loop-t-smaller : goal.loop-t-smaller
loop-t-smaller g c =
    turn_shorter _ _ _ _ _ _ _ _ _ _ (made g c) (g.S.Store.contents c.undo_one.new.store) c.undo_one.ensures (rises_rising (vertices c.in-Some.t) c.in-Some.t.rising)

pub loop-t-preserved : goal.loop-t-preserved
loop-t-preserved g c =
    let then = g.S.Store.contents c.undo_one.new.store in
    let rising = rises_rising (vertices c.in-Some.t) c.in-Some.t.rising in (
      turn_keeps _ _ _ _ _ _ _ _ _ _ (made g c) then c.undo_one.ensures rising,
      turn_goes_on _ _ _ _ _ _ _ _ _ _ (made g c) then c.undo_one.ensures rising,
    )

pub returns : goal.returns
returns g c =
    let none = c.in_default.ensures ∙ sided_is_next c.args.self.u c.args.self.v (g.S.Store.contents c.loop-t.store).model (g.S.Store.stored c.loop-t.store).sorted (vertices_or_none c.loop-t.at) in
    c.loop-t.invariant.0 ∙ ap (holding (g.S.Store.contents c.args.store.now)) (none_ahead _ _ _ _ _ _ _ c.loop-t.invariant.1 none)
