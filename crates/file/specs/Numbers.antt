-- Bytes as sixteen-bit numbers.
use Rattle.std.specs.Prelude.{ℕ, ◌+◌, ◌*◌, List, [], ◌∷◌, take}
use Rattle.file.specs.declared.vertices.decode.Vertices.{Vertices}

-- two bytes make a number, the high byte first; a last odd byte makes none
abbrev pub pairs : List ℕ → List ℕ
pairs [] = []
pairs (hi ∷ []) = []
pairs (hi ∷ lo ∷ bs) = (256 * hi + lo) ∷ pairs bs

-- the numbers held
abbrev pub listed : Vertices → List ℕ
listed v = take v.count v.numbers
