-- What is asked of the notes.
use Rattle.std.specs.Prelude.{ℕ, Bool, false, cond, ◌||◌, List, [], ◌∷◌, Some, None, Option, ◌==◌, slice_index_or}
use Rattle.trail.specs.Notes.{Note}
use Rattle.trail.specs.Heads.{head_of}
use Rattle.trail.specs.declared.head.Head.{Head}

-- the head of the newest note, if there is one
abbrev pub newest_head : List Note → Option Head
newest_head [] = None
newest_head (n ∷ ns) = Some (head_of n)

-- pair i of the newest note, or two zeros
abbrev pub newest_pair : List Note → ℕ → ℕ × ℕ
newest_pair [] i = (0, 0)
newest_pair (n ∷ ns) i = slice_index_or n.pairs i (0, 0)

-- the notes but for the newest
abbrev pub earlier : List Note → List Note
earlier [] = []
earlier (n ∷ ns) = ns

-- where a collapse takes a vertex
abbrev pub step : Note → ℕ → ℕ
step n w = cond (w == n.v) n.u w

-- where a vertex has gone, from the oldest note to the newest
abbrev pub traced : List Note → ℕ → ℕ
traced [] w = w
traced (n ∷ ns) w = step n (traced ns w)

-- whether a vertex was merged into another
abbrev pub merged : List Note → ℕ → Bool
merged [] w = false
merged (n ∷ ns) w = w == n.v || merged ns w
