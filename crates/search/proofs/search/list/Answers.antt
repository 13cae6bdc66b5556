-- Each turn puts the next node behind those that the table holds.
use Rattle.std.proofs.Common.{◌≡◌, ◌<◌, cond, ltb, [], ◌∷◌, ◌++◌, length, is_some, Some, sym, ap, ◌∙◌, append_assoc, arith}
use Rattle.std.proofs.lemmas.List.{length-map, length-append, length-take-le}
use Rattle.std.proofs.lemmas.Bool.{lt-ltb, or_right}
use Rattle.order.specs.Assoc.{rising, lookup, put}
use Rattle.search.specs.Nodes.{own, left}
use Rattle.table.specs.Held.{held}
use Rattle.table.proofs.Shifts.{drop_further}
use Rattle.search.proofs.Listing.{put_last}
use Rattle.search.proofs.Walks.{itself, node_step}
use Rattle.search.proofs.search.list.Goals as goal

pub loop-node-smaller : goal.loop-node-smaller
loop-node-smaller g c =
    let m = g.met.J.Node.Order in
    let step = node_step g.J.Node.Order.ranks (record { antisymm = m.flip; trans = m.chain; congr = m.alike }) (g.J.Joining.nodes c.args.graph.now) c.loop-node.at c.in-Some.node c.next.ensures.sorted (c.in-Some.ensures.next c.loop-node.invariant.1) in
    omega (arith, ap length step.first)

pub loop-node-preserved : goal.loop-node-preserved
loop-node-preserved g c =
    let m = g.met.J.Node.Order in
    let rank = g.J.Node.Order.ranks in
    let nodes = g.J.Joining.nodes c.args.graph.now in
    let t = c.loop-node.table in
    let u = c.put.new.self in
    let x = c.in-Some.node in
    let l = c.loop-node.invariant in
    let step = node_step rank (record { antisymm = m.flip; trans = m.chain; congr = m.alike }) nodes c.loop-node.at x c.next.ensures.sorted (c.in-Some.ensures.next l.1) in
    let after = left rank (Some x) (own nodes) in
    let all : held t ++ itself x ∷ after ≡ own nodes = sym (ap (λ rows. held t ++ rows) step.first) ∙ l.0 in
    let stored = c.put.ensures.does l.2 in
    let used : length (held t) ≡ t.len = length-take-le t.len t.records.now l.2.0 in
    let room : t.len < length t.records.now = omega (arith, used, c.requires, ap length c.open-table.ensures.records, l.3, ap length all, length-append (held t) (itself x ∷ after), length-map nodes itself) in
    let put_in = stored.fits ∙ or_right (is_some (lookup rank x (held t))) (ltb t.len (length t.records.now)) (lt-ltb t.len (length t.records.now) room) in
    let holds : held u ≡ held t ++ itself x ∷ [] = stored.holds ∙ ap (λ b. cond b (put rank x (Some x) (held t)) (held t)) put_in ∙ put_last rank (held t) after x (ap (rising rank) all ∙ c.next.ensures.sorted) in (
      ap (λ rows. rows ++ after) holds ∙ append_assoc (held t) (itself x ∷ []) after ∙ all,
      step.node,
      stored.good,
      c.put.ensures.room ∙ l.3,
      c.put.ensures.unused ∙ drop_further t.len u.len t.records.now c.open-table.result.records.now (omega (arith, stored.long, ap length holds, length-append (held t) (itself x ∷ []), used)) l.4,
      c.put.ensures.lender ∙ l.5,
    )
