-- Among simplexes with equally many vertices, the sum of the terms follows the order, and is less than the number of simplexes.
use Rattle.std.proofs.Common.{◌≡◌, ℕ, suc, ◌+◌, ◌<◌, ◌≤◌, true, ltb, ◌⊎◌, List, [], ◌∷◌, length, Ordering, Less, Equal, Greater, refl, ap, ap₂, inl, inr, arith}
use Rattle.std.specs.Ordering.{ordering_then, nat_cmp}
use Rattle.std.proofs.lemmas.Bool.{and_parts, ltb-true}
use Rattle.std.proofs.lemmas.Bool.Decides.{nat_tests}
use Rattle.complex.specs.Simplex.{colex, rises, below}
use Rattle.complex.proofs.Order.{colex_exact}
use Rattle.grid_store.specs.Places.{terms}
use Rattle.grid_store.proofs.Choose.{choose, choose_none, choose_more, choose_rises, term_chooses}

-- the sum of the terms, as binomial coefficients
abbrev pub chosen_terms : ℕ → List ℕ → ℕ
chosen_terms i [] = 0
chosen_terms i (x ∷ xs) = choose x i + chosen_terms (suc i) xs

pub terms_chosen : (i : ℕ) (s : List ℕ) → i + length s ≤ 5 → terms i s ≡ chosen_terms i s
terms_chosen i [] h = refl
terms_chosen i (x ∷ xs) h = ap₂ ◌+◌ (term_chooses i x (omega arith)) (terms_chosen (suc i) xs (omega arith))

-- the terms up to a vertex x are less than one more term, at any larger vertex
carried : (i p x y : ℕ) → p < choose x i → x < y → p + choose x (suc i) < choose y (suc i)
carried i p x y h l = omega (arith, choose_more x i, choose_rises (suc x) y (suc i) l)

-- p stands for the terms of vertices below x
fit : (n i p x : ℕ) (xs : List ℕ) → rises (x ∷ xs) ≡ true → below n (x ∷ xs) ≡ true → p < choose x i → p + chosen_terms (suc i) (x ∷ xs) < choose n (suc i + length xs)
fit n i p x [] r b h =
    let e : suc i + 0 ≡ suc i = omega arith in
    rw e (omega (arith, carried i p x n h (ltb-true x n (and_parts (ltb x n) true b).0)))
fit n i p x (y ∷ ys) r b h =
    let e : suc i + suc (length ys) ≡ suc (suc i) + length ys = omega arith in
    let l = carried i p x y h (ltb-true x y (and_parts (ltb x y) (rises (y ∷ ys)) r).0) in
    let more = fit n (suc i) (p + choose x (suc i)) y ys (and_parts (ltb x y) (rises (y ∷ ys)) r).1 (and_parts (ltb x n) (below n (y ∷ ys)) b).1 l in
    rw e (omega arith)

pub terms_fit : (n x : ℕ) (xs : List ℕ) → rises (x ∷ xs) ≡ true → below n (x ∷ xs) ≡ true → chosen_terms 1 (x ∷ xs) < choose n (length (x ∷ xs))
terms_fit n x xs r b =
    let e : suc 0 + length xs ≡ suc (length xs) = omega arith in
    omega (arith, rw e at (fit n 0 0 x xs r b (omega (arith, choose_none x))))

-- either the vertices after the first decide, or the first does
decided : (o : Ordering) (x y : ℕ) → ordering_then o (nat_cmp x y) ≡ Less → (o ≡ Less) ⊎ ((o ≡ Equal) × (x < y))
decided Less x y h = inl refl
decided Equal x y h = inr (refl, grind (arith, nat_tests))
decided Greater x y h = inl (cc)

rise : (i p x y : ℕ) (xs ys : List ℕ) → rises (x ∷ xs) ≡ true → length xs ≡ length ys → colex (x ∷ xs) (y ∷ ys) ≡ Less → p < choose x i → p + chosen_terms (suc i) (x ∷ xs) < chosen_terms (suc i) (y ∷ ys)
rise i p x y [] [] r l c h = go (decided Equal x y c)
  where
    go : (Equal ≡ Less) ⊎ ((Equal ≡ Equal) × (x < y)) → p + (choose x (suc i) + 0) < choose y (suc i) + 0
    go (inl e) = let z : ◌≡◌ {A = ℕ} 0 1 = cc in omega arith
    go (inr e) = omega (arith, carried i p x y h e.1)
rise i p x y [] (v ∷ ys) r l c h = absurd (omega arith)
rise i p x y (u ∷ xs) [] r l c h = absurd (omega arith)
rise i p x y (u ∷ xs) (v ∷ ys) r l c h =
    go (λ d. rise (suc i) (p + choose x (suc i)) u v xs ys (and_parts (ltb x u) (rises (u ∷ xs)) r).1 (omega arith) d (carried i p x u h (ltb-true x u (and_parts (ltb x u) (rises (u ∷ xs)) r).0)))
    (decided (colex (u ∷ xs) (v ∷ ys)) x y c)
  where
    go : (colex (u ∷ xs) (v ∷ ys) ≡ Less → p + choose x (suc i) + chosen_terms (suc (suc i)) (u ∷ xs) < chosen_terms (suc (suc i)) (v ∷ ys)) → (colex (u ∷ xs) (v ∷ ys) ≡ Less) ⊎ ((colex (u ∷ xs) (v ∷ ys) ≡ Equal) × (x < y)) →
        p + chosen_terms (suc i) (x ∷ (u ∷ xs)) < chosen_terms (suc i) (y ∷ (v ∷ ys))
    go more (inl d) = omega (arith, more d)
    go more (inr d) = omega (arith, carried i p x y h d.1, ap (chosen_terms (suc (suc i))) (colex_exact (u ∷ xs) (v ∷ ys) d.0))

pub terms_rise : (s t : List ℕ) → rises s ≡ true → length s ≡ length t → colex s t ≡ Less → chosen_terms 1 s < chosen_terms 1 t
terms_rise [] [] r l c = let z : ◌≡◌ {A = ℕ} 0 1 = cc in omega arith
terms_rise [] (y ∷ t) r l c = absurd (omega arith)
terms_rise (x ∷ s) [] r l c = absurd (omega arith)
terms_rise (x ∷ s) (y ∷ t) r l c = omega (arith, rise 0 0 x y s t r (omega arith) c (omega (arith, choose_none x)))
