-- The record of a collapse, and the split that takes it back.
use Rattle.std.specs.Prelude.{ℕ, cond, List, [], ◌∷◌, bit_and}
use Rattle.complex.specs.Model.{Model, mask, write}
use Rattle.complex.specs.Simplex.{has, plus}
use Rattle.collapse.specs.Image.{less, collapse}

-- the simplexes s for which s + u is held, in order; the first is empty where u itself is held
abbrev pub bases : ℕ → Model → List (List ℕ)
bases u [] = []
bases u (r ∷ rs) = cond (has u r.key) (less u r.key ∷ bases u rs) (bases u rs)

-- the former masks of s + u and s + v
abbrev pub former : ℕ → ℕ → Model → List (List ℕ) → List (ℕ × ℕ)
former u v M [] = []
former u v M (s ∷ ss) = (mask M (plus u s), mask M (plus v s)) ∷ former u v M ss

-- what the record of a collapse keeps: for each s + u held afterwards, in order, the former masks of s + u and s + v
abbrev pub pairs_of : ℕ → ℕ → Model → List (ℕ × ℕ)
pairs_of u v M = former u v M (bases u (collapse u v M))

-- s + u gets mask a, s + v gets b, and s + u + v the bits common to both; 0 means absent
abbrev pub split_one : ℕ → ℕ → Model → List ℕ → ℕ → ℕ → Model
split_one u v M s a b = write (write (write M (plus u s) a) (plus v s) b) (plus u (plus v s)) (bit_and a b)

-- the pairs of a record, each at its s
abbrev pub split_each : ℕ → ℕ → Model → List (List ℕ) → List (ℕ × ℕ) → Model
split_each u v M [] ps = M
split_each u v M (s ∷ ss) [] = M
split_each u v M (s ∷ ss) (p ∷ ps) = split_each u v (split_one u v M s p.0 p.1) ss ps

-- the split of a model by a record
abbrev pub split : ℕ → ℕ → Model → List (ℕ × ℕ) → Model
split u v M ps = split_each u v M (bases u M) ps
