-- The simplexes that have one vertex and have not another.
use Rattle.std.specs.Prelude.{ℕ, Bool, not, ◌&&◌, List, filter, find, Option}
use Rattle.complex.specs.Model.{Model}
use Rattle.complex.specs.Simplex.{has}
use Rattle.store.specs.Walk.{keys}

-- u is one of the vertices and v is not
abbrev pub one_sided : ℕ → ℕ → List ℕ → Bool
one_sided u v s = has u s && not (has v s)

-- the held simplexes with u and without v
abbrev pub sided : ℕ → ℕ → Model → Model
sided u v M = filter (λ r. one_sided u v r.key) M

-- the first simplex of these records that has u and has not v
abbrev pub first_sided : ℕ → ℕ → Model → Option (List ℕ)
first_sided u v M = find (one_sided u v) (keys M)
