-- The lines of a script.
use Rattle.std.specs.Prelude.{◌≡◌, ℕ, ◌<◌, Bool, true, cond, not, ◌&&◌, List, [], ◌∷◌, ◌++◌, length, Some, None, Option, ◌==◌}
use Rattle.std.specs.Borrow.{Bor}
use Rattle.script.specs.Line.{upto}

-- a byte more at the front of the first line
abbrev pub lengthened : ℕ → List (List ℕ) → List (List ℕ)
lengthened b [] = (b ∷ []) ∷ []
lengthened b (l ∷ ls) = (b ∷ l) ∷ ls

-- the pieces between bytes 10; what stands after the last byte 10 is a line if it is not empty
abbrev pub lines : List ℕ → List (List ℕ)
lines [] = []
lines (b ∷ s) = cond (b == 10) ([] ∷ lines s) (lengthened b (lines s))

-- the lines one after another, each with byte 10 after it
abbrev pub joined : List (List ℕ) → List ℕ
joined [] = []
joined (l ∷ ls) = l ++ (10 ∷ joined ls)

-- the script, with byte 10 after its last line if that lacks it
abbrev pub ended : List ℕ → List ℕ
ended [] = []
ended (b ∷ []) = cond (b == 10) (b ∷ []) (b ∷ 10 ∷ [])
ended (b ∷ c ∷ s) = b ∷ ended (c ∷ s)

-- no byte is 10
abbrev pub unbroken : List ℕ → Bool
unbroken [] = true
unbroken (b ∷ s) = not (b == 10) && unbroken s

-- no line has a byte 10
abbrev pub all_unbroken : List (List ℕ) → Bool
all_unbroken [] = true
all_unbroken (l ∷ ls) = unbroken l && all_unbroken ls

-- ls are the lines of the script: none has a byte 10, and joined they give the script again
pub record Lined (script : List ℕ) (ls : List (List ℕ)) : Type 0 where
  pub whole : joined ls ≡ ended script
  pub single : all_unbroken ls ≡ true

-- the bytes after the first d
abbrev pub past : ℕ → List ℕ → List ℕ
past d [] = []
past d (b ∷ s) = cond (b == d) s (past d s)

-- the first line and what follows its end
abbrev pub first_line : List ℕ → Option (List ℕ × List ℕ)
first_line [] = None
first_line (b ∷ s) = Some (upto 10 (b ∷ s), past 10 (b ∷ s))

-- a first line that was taken off leads the lines of what follows, which is shorter; with none there are no lines
abbrev pub Leads : Option (Bor (List ℕ) × Bor (List ℕ)) → List ℕ → Type 0
Leads None script = lines script ≡ []
Leads (Some p) script = (lines script ≡ p.0.now ∷ lines p.1.now) × (length p.1.now < length script)
