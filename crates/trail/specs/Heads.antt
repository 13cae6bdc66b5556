-- The heads of records.
use Rattle.std.specs.Prelude.{List, [], ◌∷◌, ◌++◌, length}
use Rattle.trail.specs.Notes.{Note}
use Rattle.trail.specs.declared.head.Head.{Head}

-- u, v and the number of pairs
abbrev pub head_of : Note → Head
head_of n = record { u = n.u; v = n.v; s = length n.pairs }

-- the heads of notes that are given newest first: the oldest's comes first
abbrev pub heads_of : List Note → List Head
heads_of [] = []
heads_of (n ∷ ns) = heads_of ns ++ (head_of n ∷ [])
