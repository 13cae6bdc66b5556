-- What a store holds: a map from simplexes to masks from 1 to 255, with its limit and its range of vertices.
use Rattle.std.specs.Prelude.{◌≡◌, ℕ, ◌≤◌, Bool, true, ◌&&◌, [], ◌∷◌, length, nat_lt}
use Rattle.complex.specs.Model.{Model, Sorted}
use Rattle.complex.specs.Simplex.{proper, below}

pub record Contents : Type 0 where
  pub model : Model
  pub limit : ℕ
  pub range : ℕ

-- the same limit and range with another model
abbrev pub holding : Contents → Model → Contents
holding c M = record { model = M; limit = c.limit; range = c.range }

-- no store holds more simplexes, or has a wider range
abbrev pub most_simplexes : ℕ
most_simplexes = 41448

abbrev pub widest_range : ℕ
widest_range = 4096

-- each key is a simplex with its vertices below n, and each mask is from 1 to 255
abbrev pub fits : ℕ → Model → Bool
fits n [] = true
fits n (r ∷ rs) = (proper r.key && (below n r.key && (nat_lt 0 r.value && nat_lt r.value 256))) && fits n rs

-- what every store shows of its contents, at all times
pub record Stored (c : Contents) : Type 0 where
  pub sorted : Sorted c.model
  pub fit : fits c.range c.model ≡ true
  pub room : length c.model ≤ c.limit
  pub few : c.limit ≤ most_simplexes
  pub narrow : c.range ≤ widest_range
