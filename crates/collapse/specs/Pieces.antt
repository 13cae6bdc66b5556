-- Pieces: classes of a part's vertices that chains of its edges connect.
use Rattle.std.specs.Prelude.{ℕ, [], ◌∷◌}
use Rattle.order.specs.Chain.{Chain}
use Rattle.complex.specs.Model.{Model, In}
use Rattle.complex.specs.Simplex.{plus}

-- two vertices are joined when their edge is in the part
abbrev pub Joined : ℕ → Model → ℕ → ℕ → Type 0
Joined p M x y = In p M (plus x (y ∷ []))

-- two vertices lie in one piece of the part
abbrev pub OnePiece : ℕ → Model → ℕ → ℕ → Type 0
OnePiece p M x y = Chain (Joined p M) x y
