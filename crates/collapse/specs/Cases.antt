-- The worked examples, as one table.
use Rattle.std.specs.Prelude.{◌≡◌, ℕ, ◌+◌, ◌*◌, List, [], ◌∷◌, length, pos, fold}
use Rattle.complex.specs.Model.{Model, mask, euler, lay, mark}
use Rattle.collapse.specs.Image.{collapse}
use Rattle.collapse.specs.Split.{pairs_of, split}
use Rattle.collapse.specs.Standing.{made_by, traced}

-- the simplexes laid in turn, from nothing
abbrev pub laid : List (List ℕ) → Model
laid ss = fold lay [] ss

-- a lone tetrahedron
abbrev pub tetrahedron : Model
tetrahedron = laid ((0 ∷ 1 ∷ 2 ∷ 3 ∷ []) ∷ [])

-- a lone triangle
abbrev pub triangle : Model
triangle = laid ((0 ∷ 1 ∷ 2 ∷ []) ∷ [])

-- three wire edges around a missing triangle
abbrev pub three_wires : Model
three_wires = laid ((0 ∷ 1 ∷ []) ∷ (0 ∷ 2 ∷ []) ∷ (1 ∷ 2 ∷ []) ∷ [])

-- the four triangles of a tetrahedron, without it
abbrev pub four_triangles : Model
four_triangles = laid ((0 ∷ 1 ∷ 2 ∷ []) ∷ (0 ∷ 1 ∷ 3 ∷ []) ∷ (0 ∷ 2 ∷ 3 ∷ []) ∷ (1 ∷ 2 ∷ 3 ∷ []) ∷ [])

-- the five tetrahedra on the vertices 0 to 4
abbrev pub five_tetrahedra : Model
five_tetrahedra = laid ((0 ∷ 1 ∷ 2 ∷ 3 ∷ []) ∷ (0 ∷ 1 ∷ 2 ∷ 4 ∷ []) ∷ (0 ∷ 1 ∷ 3 ∷ 4 ∷ []) ∷ (0 ∷ 2 ∷ 3 ∷ 4 ∷ []) ∷ (1 ∷ 2 ∷ 3 ∷ 4 ∷ []) ∷ [])

-- a triangle with part 1 on point 1
abbrev pub marked_at_one : Model
marked_at_one = mark 1 triangle (1 ∷ [])

-- a triangle with part 1 on point 0 and part 2 on point 1
abbrev pub marked_at_both : Model
marked_at_both = mark 2 (mark 1 triangle (0 ∷ [])) (1 ∷ [])

-- two wire edges, from 0 to 1 and from 1 to 2
abbrev pub two_wires : Model
two_wires = laid ((0 ∷ 1 ∷ []) ∷ (1 ∷ 2 ∷ []) ∷ [])

-- what is held, the Euler numbers, and what collapses and splits give
pub record Worked : Type 0 where
  pub tetrahedron_held : length tetrahedron ≡ 15
  pub tetrahedron_euler : euler 0 tetrahedron ≡ pos 1
  pub tetrahedron_collapsed : length (collapse 0 1 tetrahedron) ≡ 7
  pub tetrahedron_record : 8 + 2 * length (pairs_of 0 1 tetrahedron) ≡ 16
  pub tetrahedron_trace : traced ((0, 1) ∷ []) 1 ≡ 0
  pub tetrahedron_split : split 0 1 (collapse 0 1 tetrahedron) (pairs_of 0 1 tetrahedron) ≡ tetrahedron
  pub three_wires_euler : euler 0 three_wires ≡ pos 0
  pub four_triangles_euler : euler 0 four_triangles ≡ pos 2
  pub five_tetrahedra_held : length five_tetrahedra ≡ 30
  pub five_tetrahedra_euler : euler 0 five_tetrahedra ≡ pos 0
  pub marked_at_one_collapsed : length (collapse 0 1 marked_at_one) ≡ 3
  pub marked_at_one_point : mask (collapse 0 1 marked_at_one) (0 ∷ []) ≡ 3
  pub marked_at_one_record : pairs_of 0 1 marked_at_one ≡ (1, 3) ∷ (1, 1) ∷ []
  pub marked_at_one_split : split 0 1 (collapse 0 1 marked_at_one) (pairs_of 0 1 marked_at_one) ≡ marked_at_one
  pub marked_at_both_point : mask (collapse 0 1 marked_at_both) (0 ∷ []) ≡ 7
  pub two_wires_collapsed : made_by two_wires ((1, 0) ∷ (1, 2) ∷ []) ≡ laid ((1 ∷ []) ∷ [])
  pub two_wires_edge_gone : mask (made_by two_wires ((1, 0) ∷ (1, 2) ∷ [])) (1 ∷ 2 ∷ []) ≡ 0
  pub two_wires_split_once : split 1 2 (made_by two_wires ((1, 0) ∷ (1, 2) ∷ [])) (pairs_of 1 2 (collapse 1 0 two_wires)) ≡ collapse 1 0 two_wires
  pub two_wires_split_twice : split 1 0 (collapse 1 0 two_wires) (pairs_of 1 0 two_wires) ≡ two_wires
