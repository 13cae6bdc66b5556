-- A simplex of the code by the list of its vertices.
use Rattle.std.specs.Prelude.{◌≡◌, ℕ, cond, List, [], length, Some, None, Option, Result, nat_le}
use Rattle.std.specs.declared.cmp.Ordering.{Ordering}
use Rattle.std.specs.Option.{option_map}
use Rattle.std.specs.Result.{result_ok}
use Rattle.complex.specs.Simplex.{colex, proper}
use Rattle.simplex.specs.Shapes.{corners}
use Rattle.simplex.specs.declared.simplex.Simplex.{Simplex}
use Rattle.simplex.specs.declared.simplex.makes.NotRising.{NotRising}

abbrev pub vertices : Simplex → List ℕ
vertices s = corners s.shape

-- simplexes in their order
abbrev pub by_vertices : Simplex → Simplex → Ordering
by_vertices s t = colex (vertices s) (vertices t)

-- the vertices of a simplex that may be absent: none stands for the empty simplex
abbrev pub vertices_or_none : Option Simplex → List ℕ
vertices_or_none None = []
vertices_or_none (Some s) = vertices s

-- what is found, by its vertices
abbrev pub found : Option Simplex → Option (List ℕ)
found o = option_map vertices o

-- the list itself, if it is one to four vertices in strictly rising order
abbrev pub checked : List ℕ → Option (List ℕ)
checked s = cond (proper s) (Some s) None

-- a list makes the simplex with these vertices, if they are one to four in strictly rising order
abbrev pub Makes : List ℕ → Result Simplex NotRising → Type 0
Makes s r = found (result_ok r) ≡ checked s

-- the list, unless it has five vertices
abbrev pub fitted : List ℕ → Option (List ℕ)
fitted s = cond (nat_le (length s) 4) (Some s) None
