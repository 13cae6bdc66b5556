-- An entry as its kind and the bytes of its vertices.
use Rattle.std.specs.Prelude.{ℕ, ◌-◌, cond, List, Ok, Err, Result, ◌==◌}
use Rattle.std.specs.Borrow.{Bor}
use Rattle.file.specs.declared.entry.Entry.{Entry}
use Rattle.file.specs.declared.entry.Entry.TheVariants.{Tetrahedron, Triangle, Wire, Point, Marked}
use Rattle.file.specs.declared.flaw.Flaw.{Flaw}
use Rattle.file.specs.declared.section.Section.{Section}
use Rattle.file.specs.declared.section.Section.TheVariants.{Tetrahedra, Triangles, Wires, Points, Part}

-- how many sections a file has: four, and one for each part
abbrev pub section_count : ℕ
section_count = 11

-- the kind of an entry, a marked one with its part, and the bytes of its vertices
pub data Content : Type 0 where
  tetrahedron : List ℕ → Content
  triangle : List ℕ → Content
  wire : List ℕ → Content
  point : List ℕ → Content
  marked : ℕ → List ℕ → Content

-- what an entry is, with the bytes that it borrows
abbrev pub content : Entry → Content
content (Tetrahedron b) = tetrahedron b.now
content (Triangle b) = triangle b.now
content (Wire b) = wire b.now
content (Point b) = point b.now
content (Marked p b) = marked p b.now

-- the bytes of the vertices
abbrev pub vertex_bytes : Content → List ℕ
vertex_bytes (tetrahedron bs) = bs
vertex_bytes (triangle bs) = bs
vertex_bytes (wire bs) = bs
vertex_bytes (point bs) = bs
vertex_bytes (marked p bs) = bs

-- sections 1 to 4 hold tetrahedra, dangling triangles, wire edges and lone points, the next ones the parts from 1 on
abbrev pub section_of : ℕ → Section
section_of s = cond (s == 1) Tetrahedra (cond (s == 2) Triangles (cond (s == 3) Wires (cond (s == 4) Points (Part (s - 4)))))

-- the entry of a section that has these vertices
abbrev pub entry_in : Section → List ℕ → Content
entry_in Tetrahedra bs = tetrahedron bs
entry_in Triangles bs = triangle bs
entry_in Wires bs = wire bs
entry_in Points bs = point bs
entry_in (Part p) bs = marked p bs

-- the same by the number of the section
abbrev pub in_section : ℕ → List ℕ → Content
in_section s bs = entry_in (section_of s) bs

-- a number of vertices with the bytes after it, or a flaw
abbrev pub measured : Result (ℕ × Bor (List ℕ)) Flaw → Result (ℕ × List ℕ) Flaw
measured (Ok x) = Ok (x.0, x.1.now)
measured (Err f) = Err f

-- an entry with the bytes after it, or a flaw
abbrev pub read : Result (Entry × Bor (List ℕ)) Flaw → Result (Content × List ℕ) Flaw
read (Ok x) = Ok (content x.0, x.1.now)
read (Err f) = Err f
