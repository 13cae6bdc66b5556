-- The earlier nodes from a place on are left to be joined.
use Rattle.std.proofs.Common.{◌≡◌, ◌-◌, take, drop, fold, filter}
use Rattle.search.specs.Nodes.{keys}
use Rattle.search.specs.Classes.{united, joined_on}
use Rattle.search.proofs.search.join.Given as goal

abbrev pub invariant-loop-place : goal.invariant-loop-place
invariant-loop-place g l =
    (keys l.rows ≡ keys l.initial.rows)
    × (fold (united g.J.Node.Order.ranks l.node) l.rows (filter (g.J.Joining.joins l.graph l.node) (drop l.from (take l.at (keys l.initial.rows)))) ≡ joined_on g.J.Node.Order.ranks (g.J.Joining.joins l.graph) (take l.at (keys l.initial.rows)) l.initial.rows l.node)

abbrev pub decreases-loop-place : goal.decreases-loop-place
decreases-loop-place g l = l.at - l.from
