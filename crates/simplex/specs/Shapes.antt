-- The vertices of a shape.
use Rattle.std.specs.Prelude.{ℕ, List, [], ◌∷◌}
use Rattle.simplex.specs.declared.shape.Shape.{Shape}
use Rattle.simplex.specs.declared.shape.Shape.TheVariants.{Point, Edge, Triangle, Tetrahedron}

abbrev pub corners : Shape → List ℕ
corners (Point a) = a ∷ []
corners (Edge a b) = a ∷ (b ∷ [])
corners (Triangle a b c) = a ∷ (b ∷ (c ∷ []))
corners (Tetrahedron a b c d) = a ∷ (b ∷ (c ∷ (d ∷ [])))
