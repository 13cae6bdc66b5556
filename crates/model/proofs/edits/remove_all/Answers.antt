use Rattle.std.proofs.Common.{[], sym, ap, ◌∙◌}
use Rattle.simplex.specs.Simplexes.{vertices}
use Rattle.store.specs.Contents.{holding}
use Rattle.store.proofs.Walks.{removing_shortens, walk_ends, all_later}
use Rattle.model.proofs.edits.remove_all.Goals as goal

pub loop-s-smaller : goal.loop-s-smaller
loop-s-smaller g c =
    let before = g.S.Store.contents c.loop-s.store in
    let st = g.S.Store.stored c.loop-s.store in
    rw c.put.ensures.after (removing_shortens before.model st.sorted [] (vertices c.in-Some.s) c.in-Some.ensures)

pub returns : goal.returns
returns g c =
    let now = g.S.Store.contents c.loop-s.store in
    let st = g.S.Store.stored c.loop-s.store in
    c.loop-s.invariant ∙ ap (holding (g.S.Store.contents c.args.store.now)) (sym (all_later now.range now.model st.fit) ∙ walk_ends now.model [] c.in_default.ensures)
