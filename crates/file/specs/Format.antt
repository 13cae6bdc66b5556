-- The format the other way round: the bytes of a file that is given as its sections, a section as its entries, an entry as its vertices.
use Rattle.std.specs.Prelude.{◌≡◌, ℕ, ◌+◌, ◌-◌, ◌/◌, ◌%◌, ◌<◌, ◌≤◌, cond, List, [], ◌∷◌, ◌++◌, length, take, nat_le}
use Rattle.std.specs.List.{flat_map, AllByRecursion}
use Rattle.file.specs.Entry.{in_section, section_count}
use Rattle.file.specs.Numbers.{pairs}
use Rattle.file.specs.Outcome.{Outcome, found, broken, outcomes}

-- a number of sixteen bits, the high byte first
abbrev pub two_bytes : ℕ → List ℕ
two_bytes n = n / 256 ∷ n % 256 ∷ []

-- the vertices of an entry
abbrev pub vertices_written : List ℕ → List ℕ
vertices_written vs = flat_map two_bytes vs

-- an entry of section s: its vertices, and in a part their number before them
abbrev pub entry_written : ℕ → List ℕ → List ℕ
entry_written s vs = cond (nat_le s 4) (vertices_written vs) (length vs ∷ vertices_written vs)

-- the entries of section s after their count
abbrev pub section_written : ℕ → List (List ℕ) → List ℕ
section_written s es = two_bytes (length es) ++ flat_map (entry_written s) es

-- the sections from s on
abbrev pub sections_written : ℕ → List (List (List ℕ)) → List ℕ
sections_written s [] = []
sections_written s (es ∷ more) = section_written s es ++ sections_written (s + 1) more

-- all sections
abbrev pub bytes_of : List (List (List ℕ)) → List ℕ
bytes_of file = sections_written 1 file

-- an entry of sections 1 to 4 has 4, 3, 2, 1 vertices, one of a part has one to four; a vertex has sixteen bits
pub record EntryFits (s : ℕ) (vs : List ℕ) : Type 0 where
  pub plain : s ≤ 4 → length vs ≡ 5 - s
  pub low : 1 ≤ length vs
  pub high : length vs ≤ 4
  pub narrow : AllByRecursion (λ v. v < 65536) vs

-- the entries of each section fit it, and their count has sixteen bits
abbrev pub SectionsFit : ℕ → List (List (List ℕ)) → Type 0
SectionsFit s [] = Unit {0}
SectionsFit s (es ∷ more) = (length es < 65536) × AllByRecursion (EntryFits s) es × SectionsFit (s + 1) more

-- a file has all its sections, and each entry fits its own
abbrev pub Fits : List (List (List ℕ)) → Type 0
Fits file = (length file ≡ section_count) × SectionsFit 1 file

-- numbers of eight bits
abbrev pub Bytes : List ℕ → Type 0
Bytes bs = AllByRecursion (λ b. b < 256) bs

-- the entries of section s, from entry i on, the first of them at place p
abbrev pub entries_placed : ℕ → ℕ → ℕ → List (List ℕ) → List Outcome
entries_placed s i p [] = []
entries_placed s i p (vs ∷ es) = found (record { section = s; entry = i; place = p }) (in_section s (vertices_written vs)) ∷ entries_placed s (i + 1) (p + length (entry_written s vs)) es

-- those of the sections from s on, the first count at place p
abbrev pub sections_placed : ℕ → ℕ → List (List (List ℕ)) → List Outcome
sections_placed s p [] = []
sections_placed s p (es ∷ more) = entries_placed s 0 (p + 2) es ++ sections_placed (s + 1) (p + length (section_written s es)) more

-- a file of bytes is read as exactly the entries that it was written from, each at its place, with no flaw
abbrev pub ReadsWhatIsWritten : Type 0
ReadsWhatIsWritten = (file : List (List (List ℕ))) → Fits file → Bytes (bytes_of file) × (outcomes (bytes_of file) ≡ sections_placed 1 0 file)

-- an entry's bytes are read as its vertices
abbrev pub ReadsVertices : Type 0
ReadsVertices = (vs : List ℕ) → length vs ≤ 4 → take 4 (pairs (vertices_written vs)) ≡ vs

-- every outcome is an entry
abbrev pub Unflawed : List Outcome → Type 0
Unflawed [] = Unit {0}
Unflawed (found site e ∷ os) = Unflawed os
Unflawed (broken site f ∷ os) = ⊥

-- bytes that are read with no flaw are those of a file that fits
abbrev pub ReadsOnlyFiles : Type 0
ReadsOnlyFiles = (bs : List ℕ) → Bytes bs → Unflawed (outcomes bs) → (file : List (List (List ℕ))) × Fits file × (bytes_of file ≡ bs)
