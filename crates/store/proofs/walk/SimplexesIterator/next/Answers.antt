use Rattle.std.proofs.Common.{◌≡◌, ℕ, ◌<◌, List, ◌∷◌, length, ap, arith}
use Rattle.simplex.specs.Simplexes.{vertices, vertices_or_none}
use Rattle.store.proofs.Walks.{walk_on}
use Rattle.store.proofs.walk.SimplexesIterator.next.Goals as goal

pub returns-clause-steps : goal.returns-clause-steps
returns-clause-steps g c =
    let store = c.self.inside.store.now in
    rw (← c.self.view_is) (walk_on (g.S.Store.contents store).model (g.S.Store.stored store).sorted (vertices_or_none c.self.inside.at) (vertices c.in_ok-s.s) c.in_ok-s.ensures)

fewer : (x : List ℕ) (xs ys : List (List ℕ)) → xs ≡ x ∷ ys → length ys < length xs
fewer x xs ys e = omega (arith, ap length e)

pub returns-clause-goes : goal.returns-clause-goes
returns-clause-goes g c = record {
  on = λ f. (tt, tt, fewer (vertices c.in_ok-s.s) _ _ (returns-clause-steps g c));
  keeps = tt;
  rests = λ f. tt;
}
