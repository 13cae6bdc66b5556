-- What reading a file gives: its entries, in order, up to the first flaw or the end.
use Rattle.std.specs.Prelude.{ℕ, zero, suc, ◌+◌, ◌-◌, ◌*◌, cond, ◌&&◌, List, [], ◌∷◌, length, take, drop, Ok, Err, Result, nat_le}
use Rattle.file.specs.declared.entry.Site.{Site}
use Rattle.file.specs.declared.flaw.Flaw.{Flaw}
use Rattle.file.specs.declared.flaw.Flaw.TheVariants.{Ends, Spare, Vertices}
use Rattle.file.specs.declared.section.Section.{Section}
use Rattle.file.specs.declared.section.Section.TheVariants.{Tetrahedra, Triangles, Wires, Points, Part}
use Rattle.file.specs.Entry.{Content, entry_in, section_of, section_count}

-- an entry or a flaw, and where it stands
pub data Outcome : Type 0 where
  found : Site → Content → Outcome
  broken : Site → Flaw → Outcome

-- the number by which a refusal is told
abbrev pub number_of : Flaw → ℕ
number_of Vertices = 2
number_of Ends = 6
number_of Spare = 7

-- how many vertices the first entry has, and the bytes from the first vertex on: 4, 3, 2, 1 vertices in the first four sections; an entry of a part begins with one byte n, 1 to 4, and has n
abbrev pub sized : Section → List ℕ → Result (ℕ × List ℕ) Flaw
sized Tetrahedra bs = Ok (4, bs)
sized Triangles bs = Ok (3, bs)
sized Wires bs = Ok (2, bs)
sized Points bs = Ok (1, bs)
sized (Part p) [] = Err Ends
sized (Part p) (n ∷ bs) = cond (nat_le 1 n && nat_le n 4) (Ok (n, bs)) (Err Vertices)

-- the entry of these vertices, two bytes each, and the bytes after it
abbrev pub cut_off : Section → Result (ℕ × List ℕ) Flaw → Result (Content × List ℕ) Flaw
cut_off k (Ok x) = cond (nat_le (2 * x.0) (length x.1)) (Ok (entry_in k (take (2 * x.0) x.1), drop (2 * x.0) x.1)) (Err Ends)
cut_off k (Err f) = Err f

-- the first entry of a section
abbrev pub first_entry : Section → List ℕ → Result (Content × List ℕ) Flaw
first_entry k bs = cut_off k (sized k bs)

-- section, entry and first byte, where the bytes are the last of a file of that size
abbrev pub site_at : ℕ → ℕ → ℕ → List ℕ → Site
site_at size s i bs = record { section = s; entry = i; place = size - length bs }

-- an entry and what comes after it; a flaw is the last
abbrev pub onward : Site → Result (Content × List ℕ) Flaw → (List ℕ → List Outcome) → List Outcome
onward site (Ok x) go = found site x.0 ∷ go x.1
onward site (Err f) go = broken site f ∷ []

-- n entries of section s, from entry i on, and then what `go` makes of the bytes after them
abbrev pub entries : ℕ → ℕ → ℕ → ℕ → (List ℕ → List Outcome) → List ℕ → List Outcome
entries size s zero i go bs = go bs
entries size s (suc n) i go bs = onward (site_at size s i bs) (first_entry (section_of s) bs) (entries size s n (i + 1) go)

-- the last k sections, each after its count; n entries were in the section before them
abbrev pub sections : ℕ → ℕ → ℕ → List ℕ → List Outcome
sections size zero n [] = []
sections size zero n (b ∷ bs) = broken (site_at size section_count n (b ∷ bs)) Spare ∷ []
sections size (suc k) n [] = broken (site_at size (section_count - k) 0 []) Ends ∷ []
sections size (suc k) n (hi ∷ []) = broken (site_at size (section_count - k) 0 (hi ∷ [])) Ends ∷ []
sections size (suc k) n (hi ∷ lo ∷ bs) = entries size (section_count - k) (256 * hi + lo) 0 (sections size k (256 * hi + lo)) bs

-- all that reading a file gives
abbrev pub outcomes : List ℕ → List Outcome
outcomes bs = sections (length bs) section_count 0 bs
