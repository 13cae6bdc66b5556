-- What the table holds, and the nodes that are left to list.
use Rattle.std.proofs.Common.{◌≡◌, ◌++◌, length, drop}
use Rattle.search.specs.Nodes.{own, left, Amid}
use Rattle.table.specs.Held.{held, room, Good}
use Rattle.search.proofs.search.list.Given as goal

abbrev pub invariant-loop-node : goal.invariant-loop-node
invariant-loop-node g l =
    (held l.table ++ left g.J.Node.Order.ranks l.at (own (g.J.Joining.nodes l.graph)) ≡ own (g.J.Joining.nodes l.graph))
    × Amid (g.J.Joining.nodes l.graph) l.at
    × Good g.J.Node.Order.ranks l.table
    × (room l.table ≡ room l.initial.table)
    × (drop l.table.len l.table.records.now ≡ drop l.table.len l.initial.table.records.now)
    × (l.table.records.ghost_name ≡ l.initial.table.records.ghost_name)

abbrev pub decreases-loop-node : goal.decreases-loop-node
decreases-loop-node g l = length (left g.J.Node.Order.ranks l.at (own (g.J.Joining.nodes l.graph)))
