-- What a reader has still to hand out, and what its steps hand out.
use Rattle.std.specs.Prelude.{◌≡◌, ◌+◌, ◌-◌, List, [], ◌∷◌, Some, None, Ok, Err, Option, Result}
use Rattle.file.specs.declared.entry.Placed.{Placed}
use Rattle.file.specs.declared.flaw.Flawed.{Flawed}
use Rattle.file.specs.declared.reader.Reader.{Reader}
use Rattle.file.specs.Entry.{content, section_count}
use Rattle.file.specs.Outcome.{Outcome, found, broken, entries, sections}

-- the rest of the section, and then the sections after it
abbrev pub to_come : Reader → List Outcome
to_come r = entries r.size r.section r.left r.entry (sections r.size (section_count - r.section) (r.entry + r.left)) r.rest.now

-- an answer as an outcome
abbrev pub told : Result Placed Flawed → Outcome
told (Ok p) = found p.site (content p.entry)
told (Err f) = broken f.site f.flaw

-- of what was to come an entry is the first, and the rest is still to come
abbrev pub Finds : List Outcome → Placed → List Outcome → Type 0
Finds before p after = before ≡ found p.site (content p.entry) ∷ after

-- a flaw is all that was to come
abbrev pub EndsIn : List Outcome → Flawed → Type 0
EndsIn before f = before ≡ broken f.site f.flaw ∷ []

-- an entry was the first that was to come, nothing was to come, or a flaw was all
abbrev pub Steps : List Outcome → Result (Option Placed) Flawed → List Outcome → Type 0
Steps before (Ok (Some p)) after = Finds before p after
Steps before (Ok None) after = (before ≡ []) × (after ≡ [])
Steps before (Err f) after = EndsIn before f
