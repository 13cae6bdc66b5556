-- Each turn takes the first of the nodes that are left.
use Rattle.std.proofs.Common.{length, ap, arith}
use Rattle.search.proofs.Walks.{node_step}
use Rattle.search.proofs.search.count.Goals as goal

pub loop-node-smaller : goal.loop-node-smaller
loop-node-smaller g c =
    let m = g.met.J.Node.Order in
    let step = node_step g.J.Node.Order.ranks (record { antisymm = m.flip; trans = m.chain; congr = m.alike }) (g.J.Joining.nodes c.args.graph.now) c.loop-node.at c.in-Some.node c.next.ensures.sorted (c.in-Some.ensures.next c.loop-node.invariant.1) in
    omega (arith, ap length step.first)

pub loop-node-preserved : goal.loop-node-preserved
loop-node-preserved g c =
    let m = g.met.J.Node.Order in
    let step = node_step g.J.Node.Order.ranks (record { antisymm = m.flip; trans = m.chain; congr = m.alike }) (g.J.Joining.nodes c.args.graph.now) c.loop-node.at c.in-Some.node c.next.ensures.sorted (c.in-Some.ensures.next c.loop-node.invariant.1) in
    (omega (arith, ap length step.first, c.loop-node.invariant.0), step.node, omega arith)
