-- The promise about the records' bytes, for every list of notes.
use Rattle.std.specs.Prelude.{◌≡◌, ℕ, ◌<◌, List, length}
use Rattle.std.specs.List.{AllByRecursion}
use Rattle.trail.specs.Notes.{Note, bytes_of}
use Rattle.trail.specs.Decoding.{notes_of}

-- a byte has eight bits
abbrev pub Byte : ℕ → Type 0
Byte b = b < 256

-- a pair of masks is two bytes
abbrev pub MasksFit : ℕ × ℕ → Type 0
MasksFit p = Byte p.0 × Byte p.1

-- the numbers have sixteen bits, the masks eight
pub record NoteFits (n : Note) : Type 0 where
  pub u : n.u < 65536
  pub v : n.v < 65536
  pub few : length n.pairs < 65536
  pub narrow : AllByRecursion MasksFit n.pairs

-- the records of notes are bytes, and the notes are read off them again
abbrev pub NotesComeBack : Type 0
NotesComeBack = (ns : List Note) → AllByRecursion NoteFits ns → AllByRecursion Byte (bytes_of ns) × (notes_of (bytes_of ns) ≡ ns)
