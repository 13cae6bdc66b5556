-- The records of collapses, and the bytes that they are kept as.
use Rattle.std.specs.Prelude.{ℕ, ◌+◌, ◌-◌, ◌*◌, ◌/◌, ◌%◌, Bool, List, [], ◌∷◌, ◌++◌, length, nat_le}

-- how many bytes a trail has
abbrev pub capacity : ℕ
capacity = 32768

-- a collapse of v into u, with the former masks of each σ+u and σ+v
pub record Note : Type 0 where
  pub u : ℕ
  pub v : ℕ
  pub pairs : List (ℕ × ℕ)

-- the note of these
abbrev pub note : ℕ → ℕ → List (ℕ × ℕ) → Note
note u v ps = record { u = u; v = v; pairs = ps }

-- a sixteen-bit number, the high byte first
abbrev pub two_bytes : ℕ → List ℕ
two_bytes n = n / 256 ∷ n % 256 ∷ []

-- the masks of the pairs, one byte each
abbrev pub masks : List (ℕ × ℕ) → List ℕ
masks [] = []
masks (p ∷ ps) = p.0 ∷ p.1 ∷ masks ps

-- u, v and the number of pairs, the pairs, then their number again
abbrev pub bytes_of_note : Note → List ℕ
bytes_of_note n = two_bytes n.u ++ (two_bytes n.v ++ (two_bytes (length n.pairs) ++ (masks n.pairs ++ two_bytes (length n.pairs))))

-- the bytes of notes that are given newest first: the oldest's stand first
abbrev pub bytes_of : List Note → List ℕ
bytes_of [] = []
bytes_of (n ∷ ns) = bytes_of ns ++ bytes_of_note n

-- the length of u, v and the number of pairs
abbrev pub head_length : ℕ
head_length = 6

-- the length of the record of s pairs
abbrev pub record_length : ℕ → ℕ
record_length s = 8 + 2 * s

-- the length of a note's record
abbrev pub room_of : Note → ℕ
room_of n = record_length (length n.pairs)

-- the length of all the records
abbrev pub room_used : List Note → ℕ
room_used [] = 0
room_used (n ∷ ns) = room_of n + room_used ns

-- whether a record of s pairs fits behind these
abbrev pub has_room : List Note → ℕ → Bool
has_room ns s = nat_le (record_length s) (capacity - room_used ns)
