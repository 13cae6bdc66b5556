-- How many vertices an entry has, by the number of its section.
use Rattle.std.proofs.Common.{◌≡◌, ℕ, zero, suc, ◌-◌, ◌≤◌, ◌&&◌, cond, leb, List, [], ◌∷◌, Ok, Err, Result, refl, ap, ◌∙◌, arith}
use Rattle.std.proofs.lemmas.Bool.Decides.{nat_tests}
use Rattle.file.specs.declared.flaw.Flaw.{Flaw}
use Rattle.file.specs.declared.flaw.Flaw.TheVariants.{Ends, Vertices}
use Rattle.file.specs.declared.section.Section.TheVariants.{Part}
use Rattle.file.specs.Entry.{section_of}
use Rattle.file.specs.Outcome.{sized}

pub sized_plain : (s : ℕ) (bs : List ℕ) → 1 ≤ s → s ≤ 4 → sized (section_of s) bs ≡ Ok (5 - s, bs)
sized_plain zero bs begun low = absurd (omega arith)
sized_plain (suc zero) bs begun low = refl
sized_plain (suc (suc zero)) bs begun low = refl
sized_plain (suc (suc (suc zero))) bs begun low = refl
sized_plain (suc (suc (suc (suc zero)))) bs begun low = refl
sized_plain (suc (suc (suc (suc (suc s))))) bs begun low = absurd (omega arith)

-- an entry of a part begins with the number of its vertices
abbrev pub counted : List ℕ → Result (ℕ × List ℕ) Flaw
counted [] = Err Ends
counted (n ∷ bs) = cond (leb 1 n && leb n 4) (Ok (n, bs)) (Err Vertices)

is_part : (s : ℕ) → 5 ≤ s → section_of s ≡ Part (s - 4)
is_part s part = grind (arith, nat_tests)

sized_part : (p : ℕ) (bs : List ℕ) → sized (Part p) bs ≡ counted bs
sized_part p [] = refl
sized_part p (n ∷ bs) = refl

pub sized_counted : (s : ℕ) (bs : List ℕ) → 5 ≤ s → sized (section_of s) bs ≡ counted bs
sized_counted s bs part = ap (λ k. sized k bs) (is_part s part) ∙ sized_part (s - 4) bs
