-- How many nodes are left.
use Rattle.std.proofs.Common.{◌≡◌, ◌+◌, ◌≤◌, length}
use Rattle.search.specs.Nodes.{own, left, Amid}
use Rattle.search.proofs.search.count.Given as goal

abbrev pub invariant-loop-node : goal.invariant-loop-node
invariant-loop-node g l =
    (l.n + length (left g.J.Node.Order.ranks l.at (own (g.J.Joining.nodes l.graph))) ≡ length (g.J.Joining.nodes l.graph))
    × Amid (g.J.Joining.nodes l.graph) l.at
    × (l.n ≤ l.room)

abbrev pub decreases-loop-node : goal.decreases-loop-node
decreases-loop-node g l = length (left g.J.Node.Order.ranks l.at (own (g.J.Joining.nodes l.graph)))
