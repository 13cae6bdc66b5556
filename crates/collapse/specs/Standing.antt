-- The model made by a list of collapses, and where vertices go along it.
use Rattle.std.specs.Prelude.{ℕ, List, [], ◌∷◌}
use Rattle.complex.specs.Model.{Model}
use Rattle.collapse.specs.Image.{collapse, moved}

-- the first model taken through the image rule at each pair in order, testing no refusal
abbrev pub made_by : Model → List (ℕ × ℕ) → Model
made_by M [] = M
made_by M (k ∷ ks) = made_by (collapse k.0 k.1 M) ks

-- a vertex taken through the pairs in order
abbrev pub traced : List (ℕ × ℕ) → ℕ → ℕ
traced [] x = x
traced (k ∷ ks) x = traced ks (moved k.0 k.1 x)
