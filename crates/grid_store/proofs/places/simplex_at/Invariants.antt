use Rattle.grid_store.proofs.Finding.{Finding}
use Rattle.grid_store.proofs.places.simplex_at.Given as goal

abbrev pub invariant-loop-k : goal.invariant-loop-k
invariant-loop-k l = Finding l.p l.size l.vertices l.k l.rest l.last
