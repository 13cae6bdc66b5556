-- How many vertices a shape and a simplex have, and how many faces that gives.
use Rattle.std.proofs.Common.{◌≡◌, ◌<◌, ◌≤◌, length, take, arith}
use Rattle.std.proofs.lemmas.List.{take_all}
use Rattle.complex.specs.Simplex.{faces}
use Rattle.complex.proofs.Faces.{few_faces}
use Rattle.simplex.specs.Shapes.{corners}
use Rattle.simplex.specs.Simplexes.{vertices}
use Rattle.simplex.specs.declared.shape.Shape.{Shape}
use Rattle.simplex.specs.declared.shape.Shape.TheVariants.{Point, Edge, Triangle, Tetrahedron}
use Rattle.simplex.specs.declared.simplex.Simplex.{Simplex}

pub four_at_most : (s : Shape) → length (corners s) ≤ 4
four_at_most (Point a) = omega arith
four_at_most (Edge a b) = omega arith
four_at_most (Triangle a b c) = omega arith
four_at_most (Tetrahedron a b c d) = omega arith

pub some_corner : (s : Shape) → 0 < length (corners s)
some_corner (Point a) = omega arith
some_corner (Edge a b) = omega arith
some_corner (Triangle a b c) = omega arith
some_corner (Tetrahedron a b c d) = omega arith

-- after fifteen places all faces were met
pub all_met : (s : Shape) → take 15 (faces (corners s)) ≡ faces (corners s)
all_met s = take_all 15 (faces (corners s)) (few_faces (corners s) (four_at_most s))

module _ (s : Simplex) where
  -- at least one
  pub some_vertex : 1 ≤ length (vertices s)
  some_vertex = omega (arith, some_corner s.shape)

  -- at most four
  pub four_vertices_at_most : length (vertices s) ≤ 4
  four_vertices_at_most = four_at_most s.shape
