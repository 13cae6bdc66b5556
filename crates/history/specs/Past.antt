-- The records of standing collapses lead back from the present model to the first.
use Rattle.std.specs.Prelude.{ℕ, List, [], ◌∷◌, ◌++◌}
use Rattle.complex.specs.Model.{Model}
use Rattle.collapse.specs.Split.{split}
use Rattle.store.specs.Contents.{Contents, holding}
use Rattle.trail.specs.Notes.{Note}

-- what was held before the collapse of a record
abbrev pub undone : Contents → Note → Contents
undone c n = holding c (split n.u n.v c.model n.pairs)

-- the first model: every record taken back, the newest first
abbrev pub first : Contents → List Note → Model
first c [] = c.model
first c (n ∷ ns) = first (undone c n) ns

-- the standing list: the pairs of the records, the oldest first
abbrev pub standing : List Note → List (ℕ × ℕ)
standing [] = []
standing (n ∷ ns) = standing ns ++ ((n.u, n.v) ∷ [])
