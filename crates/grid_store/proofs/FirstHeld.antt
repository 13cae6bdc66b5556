-- The first byte that is not 0 tells the first simplex that is held.
use Rattle.std.proofs.Common.{◌≡◌, ℕ, suc, ◌+◌, Bool, true, false, not, eqb, ◌⊎◌, List, [], ◌∷◌, Some, sym, refl, ap, ◌∙◌, inl, inr, arith}
use Rattle.std.specs.List.{position, position_from}
use Rattle.std.specs.Option.{option_map}
use Rattle.std.proofs.lemmas.Bool.{cases_Bool}
use Rattle.std.proofs.lemmas.Iterator.Adapters.{position_from-zero}
use Rattle.order.specs.Assoc.{first}
use Rattle.grid_store.specs.Places.{simplex_at}
use Rattle.grid_store.specs.Masks.{masks_from}

abbrev pub is_set : ℕ → Bool
is_set b = not (eqb b 0)

-- over the bytes from the place q on, which is the i-th from p
first_at : (p i q : ℕ) (bs : List ℕ) → p + i ≡ q → first (masks_from q bs) ≡ option_map (λ j. simplex_at (p + j)) (position_from is_set i bs)
first_at p i q [] e = refl
first_at p i q (b ∷ bs) e = go (first_at p (i + 1) (suc q) bs (omega arith)) (cases_Bool (eqb b 0))
  where
    go : first (masks_from (suc q) bs) ≡ option_map (λ j. simplex_at (p + j)) (position_from is_set (i + 1) bs) → (eqb b 0 ≡ true) ⊎ (eqb b 0 ≡ false) → first (masks_from q (b ∷ bs)) ≡ option_map (λ j. simplex_at (p + j)) (position_from is_set i (b ∷ bs))
    go more (inl z) = rw z more
    go more (inr z) = rw z (ap (λ j. Some (simplex_at j)) (sym e))

pub first_held : (p : ℕ) (bs : List ℕ) → first (masks_from p bs) ≡ option_map (λ j. simplex_at (p + j)) (position is_set bs)
first_held p bs = first_at p 0 p bs (omega arith) ∙ ap (option_map (λ j. simplex_at (p + j))) (sym (position_from-zero is_set bs))
