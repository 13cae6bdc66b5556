-- Each turn joins the node with the next of the earlier ones.
use Rattle.std.proofs.Common.{get_or, take, Some, None, sym, ap, ◌∙◌, arith}
use Rattle.std.proofs.lemmas.List.{get_or_default}
use Rattle.std.specs.Cmp.{IsTotalOrder}
use Rattle.search.specs.Classes.{joined_on}
use Rattle.search.specs.Nodes.{keys}
use Rattle.search.proofs.Uniting.{next_told, joins_end, joins_on}
use Rattle.search.proofs.search.join.Goals as goal

pub loop-place-preserved : goal.loop-place-preserved
loop-place-preserved g c =
    let m = g.met.J.Node.Order in
    let rank = g.J.Node.Order.ranks in
    let ok : IsTotalOrder rank = record { antisymm = m.flip; trans = m.chain; congr = m.alike } in
    let old = c.args.rows.now in
    let rows = c.loop-place.rows in
    let at = c.args.at in
    let d = c.index-rows-at.result in
    let from = c.loop-place.from in
    let J = g.J.Joining.joins c.args.graph.now in
    let l = c.loop-place.invariant in
    let place = c.in-Some.place in
    let told = next_told rank ok (J (get_or old at d).key) old rows at d l.0 c.requires.sorted c.requires.within c.front.result.now c.front.ensures.is from (Some place) c.in-Some.ensures.joined in
    let on = joins_on rank ok (J (get_or old at d).key) old rows at d l.0 c.requires.sorted c.requires.within from place (omega (arith, c.in-Some.ensures.within.1, c.front.ensures.short)) told c.unite.new.rows (c.unite.ensures d) in
    (on.0, on.1 ∙ l.1)

pub returns : goal.returns
returns g c e =
    let m = g.met.J.Node.Order in
    let rank = g.J.Node.Order.ranks in
    let ok : IsTotalOrder rank = record { antisymm = m.flip; trans = m.chain; congr = m.alike } in
    let old = c.args.rows.now in
    let rows = c.loop-place.rows in
    let at = c.args.at in
    let d = c.index-rows-at.result in
    let from = c.loop-place.from in
    let J = g.J.Joining.joins c.args.graph.now in
    let l = c.loop-place.invariant in
    let told = next_told rank ok (J (get_or old at d).key) old rows at d l.0 c.requires.sorted c.requires.within c.front.result.now c.front.ensures.is from None c.in_default.ensures.joined in
    sym (joins_end rank ok (J (get_or old at d).key) old rows at d l.0 c.requires.sorted c.requires.within from told) ∙ l.1 ∙ ap (λ r. joined_on rank J (take at (keys old)) old r.key) (get_or_default old at d e c.requires.within)
