-- Bytes cut at the first of a kind.
use Rattle.std.proofs.Common.{◌≡◌, ℕ, suc, ◌+◌, ◌-◌, ◌<◌, ◌≤◌, Bool, true, false, cond, not, eqb, ltb, List, [], ◌∷◌, ◌++◌, length, take, drop, Some, None, Option, unwrap_or, refl, ap, ◌∙◌, arith}
use Rattle.std.specs.List.{position_or_len}
use Rattle.std.proofs.lemmas.Bool.{ltb-false}
use Rattle.std.proofs.lemmas.List.Sums.{prefix_len-le-length}
use Rattle.std.proofs.lemmas.Slice.{between_to_end}
use Rattle.script.specs.Line.{upto, from}
use Rattle.script.specs.Lines.{past}

-- what a slice pattern leaves after the first byte
abbrev pub after_one : List ℕ → List ℕ
after_one s = take (length s - 1) (drop 1 s)

one_more : (n : ℕ) → 1 + n ≡ suc n
one_more n = omega arith

module _ (d : ℕ) where
  -- where the first d stands, or the length
  abbrev pub place : List ℕ → ℕ
  place s = position_or_len (λ b. eqb b d) s

  -- a search that found no d goes on to the end
  pub place_found : (s : List ℕ) (r : Option ℕ) → r ≡ cond (ltb (place s) (length s)) (Some (place s)) None → unwrap_or r (length s) ≡ place s
  place_found s r is = ap (λ o. unwrap_or o (length s)) is ∙ go (ltb (place s) (length s)) refl
    where
      go : (t : Bool) → ltb (place s) (length s) ≡ t → unwrap_or (cond t (Some (place s)) None) (length s) ≡ place s
      go true e = refl
      go false e = let past_end = ltb-false (place s) (length s) e in omega (arith, prefix_len-le-length (λ b. not (eqb b d)) s)

  pub take_place : (s : List ℕ) → take (place s) s ≡ upto d s
  take_place [] = refl
  take_place (b ∷ s) = go (eqb b d) (take_place s)
    where
      go : (t : Bool) → take (place s) s ≡ upto d s → take (cond (not t) (1 + place s) 0) (b ∷ s) ≡ cond t [] (b ∷ upto d s)
      go true later = refl
      go false later = ap (λ k. take k (b ∷ s)) (one_more (place s)) ∙ ap (λ l. b ∷ l) later

  pub drop_place : (s : List ℕ) → drop (place s) s ≡ from d s
  drop_place [] = refl
  drop_place (b ∷ s) = go (eqb b d) (drop_place s)
    where
      go : (t : Bool) → drop (place s) s ≡ from d s → drop (cond (not t) (1 + place s) 0) (b ∷ s) ≡ cond t (b ∷ s) (from d s)
      go true later = refl
      go false later = ap (λ k. drop k (b ∷ s)) (one_more (place s)) ∙ later

  pub upto_from : (s : List ℕ) → upto d s ++ from d s ≡ s
  upto_from [] = refl
  upto_from (b ∷ s) = go (eqb b d) (upto_from s)
    where
      go : (t : Bool) → upto d s ++ from d s ≡ s → cond t [] (b ∷ upto d s) ++ cond t (b ∷ s) (from d s) ≡ b ∷ s
      go true later = refl
      go false later = ap (λ l. b ∷ l) later

  pub past_none : (s : List ℕ) → length (from d s) ≡ 0 → from d s ≡ past d s
  past_none [] none = refl
  past_none (b ∷ s) none = go (eqb b d) none (past_none s)
    where
      go : (t : Bool) → length (cond t (b ∷ s) (from d s)) ≡ 0 → (length (from d s) ≡ 0 → from d s ≡ past d s) → cond t (b ∷ s) (from d s) ≡ cond t s (past d s)
      go true none later = absurd (omega arith)
      go false none later = later none

  pub past_some : (s : List ℕ) → 1 ≤ length (from d s) → after_one (from d s) ≡ past d s
  past_some [] some = absurd (omega arith)
  past_some (b ∷ s) some = go (eqb b d) some (past_some s)
    where
      go : (t : Bool) → 1 ≤ length (cond t (b ∷ s) (from d s)) → (1 ≤ length (from d s) → after_one (from d s) ≡ past d s) → after_one (cond t (b ∷ s) (from d s)) ≡ cond t s (past d s)
      go true some later = between_to_end (b ∷ s) 1 (length (b ∷ s)) (omega arith)
      go false some later = later some

  past_no_longer : (s : List ℕ) → length (past d s) ≤ length s
  past_no_longer [] = omega arith
  past_no_longer (b ∷ s) = go (eqb b d) (past_no_longer s)
    where
      go : (t : Bool) → length (past d s) ≤ length s → length (cond t s (past d s)) ≤ suc (length s)
      go true later = omega arith
      go false later = omega arith

  pub past_shorter : (b : ℕ) (s : List ℕ) → length (past d (b ∷ s)) < suc (length s)
  past_shorter b s = go (eqb b d) (past_no_longer s)
    where
      go : (t : Bool) → length (past d s) ≤ length s → length (cond t s (past d s)) < suc (length s)
      go true later = omega arith
      go false later = omega arith
