-- What holds of the vertices of every simplex.
use Rattle.std.proofs.Common.{◌≡◌, ◌≤◌, true, length, arith}
use Rattle.complex.specs.Simplex.{rises, proper, faces}
use Rattle.complex.proofs.Faces.{few_faces}
use Rattle.simplex.specs.declared.shape.Shape.{Shape}
use Rattle.simplex.specs.declared.shape.Shape.TheVariants.{Point, Edge, Triangle, Tetrahedron}
use Rattle.simplex.specs.declared.simplex.Simplex.{Simplex}
use Rattle.simplex.specs.Shapes.{corners}
use Rattle.simplex.specs.Simplexes.{vertices}

corners_proper : (s : Shape) → rises (corners s) ≡ true → proper (corners s) ≡ true
corners_proper (Point a) h = h
corners_proper (Edge a b) h = h
corners_proper (Triangle a b c) h = h
corners_proper (Tetrahedron a b c d) h = h

-- they are one to four in strictly rising order
pub vertices_proper : (s : Simplex) → proper (vertices s) ≡ true
vertices_proper s = corners_proper s.shape s.rising

corners_at_most_four : (s : Shape) → length (corners s) ≤ 4
corners_at_most_four (Point a) = omega arith
corners_at_most_four (Edge a b) = omega arith
corners_at_most_four (Triangle a b c) = omega arith
corners_at_most_four (Tetrahedron a b c d) = omega arith

-- they have at most fifteen faces
pub vertices_few_faces : (s : Simplex) → length (faces (vertices s)) ≤ 15
vertices_few_faces s = few_faces (vertices s) (corners_at_most_four s.shape)
