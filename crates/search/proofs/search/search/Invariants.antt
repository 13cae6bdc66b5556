-- The nodes from a place on are left to be joined with those before them.
use Rattle.std.proofs.Common.{◌≡◌, take, drop}
use Rattle.search.specs.Nodes.{keys}
use Rattle.search.specs.Classes.{gathered_from, gathered}
use Rattle.search.proofs.search.search.Given as goal

abbrev pub invariant-loop-at : goal.invariant-loop-at
invariant-loop-at g l =
    (keys l.labels ≡ g.J.Joining.nodes l.graph)
    × (gathered_from g.J.Node.Order.ranks (g.J.Joining.joins l.graph) (take l.at (g.J.Joining.nodes l.graph)) l.labels (drop l.at (g.J.Joining.nodes l.graph)) ≡ gathered g.J.Node.Order.ranks (g.J.Joining.joins l.graph) (g.J.Joining.nodes l.graph))
