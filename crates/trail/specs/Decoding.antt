-- How notes are read off their bytes, from the end, by the number that stands there.
use Rattle.std.specs.Prelude.{ℕ, zero, suc, ◌+◌, ◌-◌, ◌*◌, List, [], ◌∷◌, length, take, drop}
use Rattle.trail.specs.Notes.{Note, note, head_length, record_length}

-- the number that the first two bytes make
abbrev pub word : List ℕ → ℕ
word [] = 0
word (hi ∷ []) = 0
word (hi ∷ lo ∷ bs) = 256 * hi + lo

-- two bytes make a pair; a last odd byte makes none
abbrev pub pairs_of : List ℕ → List (ℕ × ℕ)
pairs_of [] = []
pairs_of (a ∷ []) = []
pairs_of (a ∷ b ∷ bs) = (a, b) ∷ pairs_of bs

-- the note whose record stands first
abbrev pub note_of : List ℕ → Note
note_of bs = note (word bs) (word (drop 2 bs)) (pairs_of (take (2 * word (drop 4 bs)) (drop head_length bs)))

-- where the last record begins
abbrev pub last_start : List ℕ → ℕ
last_start bs = length bs - record_length (word (drop (length bs - 2) bs))

-- the notes of at most k records, newest first
abbrev pub last_notes : ℕ → List ℕ → List Note
last_notes zero bs = []
last_notes (suc k) [] = []
last_notes (suc k) (b ∷ bs) = note_of (drop (last_start (b ∷ bs)) (b ∷ bs)) ∷ last_notes k (take (last_start (b ∷ bs)) (b ∷ bs))

-- the notes whose records these are, newest first
abbrev pub notes_of : List ℕ → List Note
notes_of bs = last_notes (length bs) bs
