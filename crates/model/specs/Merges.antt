-- Merging one vertex into another, a simplex at a time.
use Rattle.std.specs.Prelude.{ℕ, cond, List, bit_or}
use Rattle.complex.specs.Model.{Model, mask, write}
use Rattle.complex.specs.Simplex.{has, plus, less}

-- a simplex gets more bits
abbrev pub join : Model → List ℕ → ℕ → Model
join M f m = write M f (bit_or (mask M f) m)

-- a simplex with v is taken out; where it lacks u, the one with u in the place of v gets its bits
abbrev pub merge_one : ℕ → ℕ → Model → List ℕ → Model
merge_one u v M t = cond (has u t) (write M t 0) (join (write M t 0) (plus u (less v t)) (mask M t))
