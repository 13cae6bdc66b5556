-- The records before the index are changed, those from it on are as they were.
use Rattle.std.proofs.Common.{◌≡◌, ◌++◌, take, drop}
use Rattle.search.specs.Classes.{renamed}
use Rattle.search.proofs.labels.rename.Given as goal

abbrev pub invariant-loop-row : goal.invariant-loop-row
invariant-loop-row g l = l.rows ≡ renamed g.N.Order.ranks l.a l.b (take l.row-index l.initial.rows) ++ drop l.row-index l.initial.rows
