-- The law above the place formula.
use Rattle.std.specs.Prelude.{◌≡◌, ℕ, ◌<◌, true, List}
use Rattle.complex.specs.Simplex.{colex, proper, below}
use Rattle.grid_store.specs.Places.{vertex_range, places, place, simplex_at}
use Rattle.std.specs.Ordering.{nat_cmp}

-- a simplex with its vertices in range
pub record InGrid (s : List ℕ) : Type 0 where
  pub simplex : proper s ≡ true
  pub ranged : below vertex_range s ≡ true

-- the places number the simplexes in range, one to one and in their order
pub record PlacesNumberSimplexes : Type 0 where
  pub inside : (s : List ℕ) → InGrid s → place s < places
  pub ordered : (s t : List ℕ) → InGrid s → InGrid t → colex s t ≡ nat_cmp (place s) (place t)
  pub apart : (s t : List ℕ) → InGrid s → InGrid t → place s ≡ place t → s ≡ t
  pub in_range : (p : ℕ) → p < places → InGrid (simplex_at p)
  pub there : (p : ℕ) → p < places → place (simplex_at p) ≡ p
  pub back : (s : List ℕ) → InGrid s → simplex_at (place s) ≡ s
