-- What a trail holds.
use Rattle.std.specs.Prelude.{◌≡◌, ℕ, ◌+◌, ◌*◌, ◌≤◌, true, false, cond, List, [], ◌∷◌, ◌++◌, length, take, drop, Ok, Err, Result}
use Rattle.trail.specs.Notes.{capacity, Note, note, bytes_of, head_length, record_length, has_room}
use Rattle.trail.specs.Decoding.{pairs_of, notes_of}
use Rattle.trail.specs.declared.head.Head.{Head}
use Rattle.trail.specs.declared.refusal.TrailFull.{TrailFull}

-- the notes of the records, newest first, and the bytes behind the last record
pub record Past : Type 0 where
  pub notes : List Note
  pub behind : List ℕ

-- the first of these bytes, as many as are in use, are the bytes of records, and nothing else
pub record HoldsRecords (bytes : List ℕ) (used : ℕ) : Type 0 where
  pub size : length bytes ≡ capacity
  pub within : used ≤ capacity
  pub formed : bytes_of (notes_of (take used bytes)) ≡ take used bytes

-- what these bytes hold, of which so many are in use
abbrev pub past_of : List ℕ → ℕ → Past
past_of bytes used = record { notes = notes_of (take used bytes); behind = drop used bytes }

-- the first n pairs of the record that is being made behind the last one
abbrev pub pending : Past → ℕ → List (ℕ × ℕ)
pending t n = pairs_of (take (2 * n) (drop head_length t.behind))

-- pair i was written behind those before it, or nothing was since it has no room
pub record Paired (i a b : ℕ) (old new : Past) : Type 0 where
  pub notes : new.notes ≡ old.notes
  pub written : has_room old.notes (i + 1) ≡ true → pending new (i + 1) ≡ pending old i ++ ((a, b) ∷ [])
  pub before : (n : ℕ) → n ≤ i → pending new n ≡ pending old n
  pub refused : has_room old.notes (i + 1) ≡ false → new ≡ old

-- the note of the pairs written is now the newest, or nothing has changed since it has no room
pub record Committed (head : Head) (old new : Past) (r : Result ℕ TrailFull) : Type 0 where
  pub answer : r ≡ cond (has_room old.notes head.s) (Ok (record_length head.s)) (Err (record {}))
  pub notes : new.notes ≡ cond (has_room old.notes head.s) (note head.u head.v (pending old head.s) ∷ old.notes) old.notes
  pub refused : has_room old.notes head.s ≡ false → new ≡ old
