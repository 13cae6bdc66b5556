-- What loading a file into a draft answers and leaves.
use Rattle.std.specs.Prelude.{◌≡◌, ℕ, cond, List, [], ◌∷◌, length, take, Ok, Err, Result, ◌==◌}
use Rattle.store.specs.Contents.{Contents}
use Rattle.model.specs.Calls.{emptied, lay_answer, laid, mark_answer, marked as marked_with, model_number}
use Rattle.model.specs.declared.refusal.ModelRefusal.{ModelRefusal}
use Rattle.file.specs.declared.entry.Site.{Site}
use Rattle.file.specs.declared.refusal.Cause.{Cause}
use Rattle.file.specs.declared.refusal.Cause.TheVariants.{Flaw, Model}
use Rattle.file.specs.declared.refusal.FileRefusal.{FileRefusal}
use Rattle.file.specs.declared.refusal.FileRefusal.TheVariants.{Occupied, At}
use Rattle.file.specs.declared.refusal.Stopped.{Stopped}
use Rattle.file.specs.Entry.{Content, tetrahedron, triangle, wire, point, marked}
use Rattle.file.specs.Numbers.{pairs}
use Rattle.file.specs.Outcome.{Outcome, found, broken, outcomes, number_of}

-- the number of a refusal
abbrev pub cause_number : Cause → ℕ
cause_number (Flaw f) = number_of f
cause_number (Model e) = model_number e

abbrev pub file_number : FileRefusal → ℕ
file_number Occupied = 29
file_number (At s) = cause_number s.cause

-- the vertices of an entry, from their bytes
abbrev pub vertices_of : List ℕ → List ℕ
vertices_of bs = take 4 (pairs bs)

-- an entry of the first four sections is laid, one of a part is marked with it
abbrev pub entry_answer : Contents → Content → Result ℕ ModelRefusal
entry_answer c (tetrahedron bs) = lay_answer c (vertices_of bs)
entry_answer c (triangle bs) = lay_answer c (vertices_of bs)
entry_answer c (wire bs) = lay_answer c (vertices_of bs)
entry_answer c (point bs) = lay_answer c (vertices_of bs)
entry_answer c (marked p bs) = mark_answer c p (vertices_of bs)

abbrev pub entry_next : Contents → Content → Contents
entry_next c (tetrahedron bs) = laid c (vertices_of bs)
entry_next c (triangle bs) = laid c (vertices_of bs)
entry_next c (wire bs) = laid c (vertices_of bs)
entry_next c (point bs) = laid c (vertices_of bs)
entry_next c (marked p bs) = marked_with c p (vertices_of bs)

-- a refused entry stops the load, at its site
abbrev pub unless_refused : {A : Type 0} → Site → Result ℕ ModelRefusal → Result A Stopped → Result A Stopped
unless_refused site (Ok n) go = go
unless_refused site (Err e) go = Err (record { site = site; cause = Model e })

-- what is held after the entries were taken in order, or where and why that stopped
abbrev pub loaded : Contents → List Outcome → Result Contents Stopped
loaded c [] = Ok c
loaded c (found site x ∷ os) = unless_refused site (entry_answer c x) (loaded (entry_next c x) os)
loaded c (broken site f ∷ os) = Err (record { site = site; cause = Flaw f })

abbrev pub held_or_stopped : Result Contents Stopped → Result ℕ FileRefusal
held_or_stopped (Ok d) = Ok (length d.model)
held_or_stopped (Err s) = Err (At s)

-- a load that stopped empties the draft
abbrev pub kept_or_emptied : Contents → Result Contents Stopped → Contents
kept_or_emptied c (Ok d) = d
kept_or_emptied c (Err s) = emptied c

-- *load*: refused into a draft that holds something; else how many simplexes are held
abbrev pub load_answer : Contents → List ℕ → Result ℕ FileRefusal
load_answer c bytes = cond (length c.model == 0) (held_or_stopped (loaded c (outcomes bytes))) (Err Occupied)

abbrev pub load_next : Contents → List ℕ → Contents
load_next c bytes = cond (length c.model == 0) (kept_or_emptied c (loaded c (outcomes bytes))) c

-- all steps of a load: what is held, or where and why it stopped
abbrev pub TakenAll : Result Contents Stopped → Result (Unit {0}) Stopped → Contents → Type 0
TakenAll (Ok c) r d = (r ≡ Ok tt) × (d ≡ c)
TakenAll (Err s) r d = r ≡ Err s
