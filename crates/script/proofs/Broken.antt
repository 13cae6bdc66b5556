-- The first line leads the others, and the lines are those of the script.
use Rattle.std.proofs.Common.{◌≡◌, ℕ, ◌<◌, Bool, true, false, cond, eqb, List, [], ◌∷◌, length, Some, sym, refl, ap, ◌∙◌, arith}
use Rattle.std.proofs.lemmas.Bool.{eqb-true}
use Rattle.script.specs.Line.{upto}
use Rattle.script.specs.Lines.{lengthened, lines, joined, ended, all_unbroken, Lined, past, first_line}
use Rattle.script.proofs.Cutting.{past_shorter}

pub lines_first : (b : ℕ) (s : List ℕ) → lines (b ∷ s) ≡ upto 10 (b ∷ s) ∷ lines (past 10 (b ∷ s))
lines_first b s = go (eqb b 10) b s
  where
    go : (t : Bool) (b : ℕ) (s : List ℕ) → cond t ([] ∷ lines s) (lengthened b (lines s)) ≡ cond t [] (b ∷ upto 10 s) ∷ lines (cond t s (past 10 s))
    go true b s = refl
    go false b [] = refl
    go false b (c ∷ s) = ap (lengthened b) (go (eqb c 10) c s)

lengthened_unbroken : (b : ℕ) (ls : List (List ℕ)) → eqb b 10 ≡ false → all_unbroken ls ≡ true → all_unbroken (lengthened b ls) ≡ true
lengthened_unbroken b [] e h = rw e refl
lengthened_unbroken b (l ∷ ls) e h = rw e h

lines_unbroken : (s : List ℕ) → all_unbroken (lines s) ≡ true
lines_unbroken [] = refl
lines_unbroken (b ∷ s) = go (eqb b 10) refl (lines_unbroken s)
  where
    go : (t : Bool) → eqb b 10 ≡ t → all_unbroken (lines s) ≡ true → all_unbroken (cond t ([] ∷ lines s) (lengthened b (lines s))) ≡ true
    go true e later = later
    go false e later = lengthened_unbroken b (lines s) e later

joined_lengthened : (b c : ℕ) (s : List ℕ) → joined (lengthened b (lines (c ∷ s))) ≡ b ∷ joined (lines (c ∷ s))
joined_lengthened b c s = let e = lines_first c s in ap (λ ls. joined (lengthened b ls)) e ∙ sym (ap (λ ls. b ∷ joined ls) e)

lines_joined : (s : List ℕ) → joined (lines s) ≡ ended s
lines_joined [] = refl
lines_joined (b ∷ []) = go (eqb b 10) refl
  where
    go : (t : Bool) → eqb b 10 ≡ t → joined (cond t ([] ∷ []) ((b ∷ []) ∷ [])) ≡ cond t (b ∷ []) (b ∷ 10 ∷ [])
    go true e = ap (λ x. x ∷ []) (sym (eqb-true b 10 e))
    go false e = refl
lines_joined (b ∷ c ∷ s) = go (eqb b 10) refl (lines_joined (c ∷ s))
  where
    go : (t : Bool) → eqb b 10 ≡ t → joined (lines (c ∷ s)) ≡ ended (c ∷ s) → joined (cond t ([] ∷ lines (c ∷ s)) (lengthened b (lines (c ∷ s)))) ≡ b ∷ ended (c ∷ s)
    go true e later = let same = eqb-true b 10 e in cc
    go false e later = joined_lengthened b c s ∙ ap (λ l. b ∷ l) later

pub lines_lined : (s : List ℕ) → Lined s (lines s)
lines_lined s = record { whole = lines_joined s; single = lines_unbroken s }

-- what is known of a first line that was taken off
pub record Taken (s line rest : List ℕ) : Type 0 where
  pub value : Some (line, rest) ≡ first_line s
  pub leads : lines s ≡ line ∷ lines rest
  pub shorter : length rest < length s

pub taken : (s line rest : List ℕ) → 0 < length s → line ≡ upto 10 s → rest ≡ past 10 s → Taken s line rest
taken [] line rest some front back = absurd (omega arith)
taken (b ∷ s) line rest some front back = record { value = cc; leads = lines_first b s ∙ (cc); shorter = rw back (past_shorter 10 b s) }
