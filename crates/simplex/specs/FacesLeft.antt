-- The faces that are still to come.
use Rattle.std.specs.Prelude.{ℕ, List, drop}
use Rattle.complex.specs.Simplex.{faces}
use Rattle.simplex.specs.Simplexes.{vertices}
use Rattle.simplex.specs.declared.simplex.faces.Faces.{Faces}

abbrev pub faces_left : Faces → List (List ℕ)
faces_left f = drop f.next (faces (vertices f.simplex))
