-- The terms of a place are binomial coefficients.
use Rattle.std.proofs.Common.{◌≡◌, ℕ, zero, suc, ◌+◌, ◌-◌, ◌*◌, ◌≤◌, ◌⊎◌, sym, refl, ap, ◌∙◌, inl, inr, le_refl, mul_assoc, suc-mul, mul_comm, mul-add, arith}
use native.Mathlib.Nat.{mul-sub}
use Rattle.grid_store.specs.Places.{term}

-- how many lists of k rising vertices below n there are
pub choose : ℕ → ℕ → ℕ
choose n zero = 1
choose zero (suc k) = 0
choose (suc n) (suc k) = choose n k + choose n (suc k)

pub choose_none : (n : ℕ) → choose n 0 ≡ 1
unfolding choose
choose_none n = refl

-- the last vertex is n, or below n
pub choose_more : (n k : ℕ) → choose (suc n) (suc k) ≡ choose n k + choose n (suc k)
unfolding choose
choose_more n k = refl

choose_rises_by_one : (n k : ℕ) → choose n k ≤ choose (suc n) k
unfolding choose
choose_rises_by_one n zero = le_refl 1
choose_rises_by_one n (suc k) = omega arith

pub choose_rises : (m n k : ℕ) → m ≤ n → choose m k ≤ choose n k
choose_rises m zero k h = let e : m ≡ 0 = omega arith in rw e (le_refl (choose 0 k))
choose_rises m (suc n) k h = go (choose_rises m n k) (last h)
  where
    last : m ≤ suc n → (m ≤ n) ⊎ (m ≡ suc n)
    last h = grind arith

    go : (m ≤ n → choose m k ≤ choose n k) → (m ≤ n) ⊎ (m ≡ suc n) → choose m k ≤ choose (suc n) k
    go more (inl l) = omega (arith, more l, choose_rises_by_one n k)
    go more (inr e) = rw e (le_refl (choose (suc n) k))

-- a list with one vertex more comes about in k + 1 ways
one_more : (n k : ℕ) → n * choose n k ≡ suc k * choose n (suc k) + k * choose n k
unfolding choose
one_more zero zero = refl
one_more zero (suc k) = omega arith
one_more (suc n) zero = omega (arith, one_more n 0)
one_more (suc n) (suc k) =
    let less = simp suc-mul at (one_more n k) in
    let same = simp suc-mul at (one_more n (suc k)) in
    simp (suc-mul, mul-add) (omega arith)

choose_one : (x : ℕ) → choose x 1 ≡ x
unfolding choose
choose_one zero = refl
choose_one (suc x) = omega (arith, choose_one x)

rest_chosen : (x k : ℕ) → choose x k * (x - k) ≡ suc k * choose x (suc k)
rest_chosen x k = mul-sub (choose x k) x k ∙ omega (arith, one_more x k, mul_comm (choose x k) x, mul_comm (choose x k) k)

-- so many times the coefficients of one size are the product of the numbers from x down, and one factor more leads to the next size
next_product : (x k w p : ℕ) → p ≡ w * choose x k → p * (x - k) ≡ w * (suc k * choose x (suc k))
next_product x k w p h = ap (λ q. q * (x - k)) h ∙ mul_assoc w (choose x k) (x - k) ∙ ap (λ q. w * q) (rest_chosen x k)

two_product : (x : ℕ) → x * (x - 1) ≡ 2 * choose x 2
two_product x = next_product x 1 1 x (omega (arith, choose_one x)) ∙ omega arith

three_product : (x : ℕ) → x * (x - 1) * (x - 2) ≡ 6 * choose x 3
three_product x = next_product x 2 2 (x * (x - 1)) (two_product x) ∙ omega arith

four_product : (x : ℕ) → x * (x - 1) * (x - 2) * (x - 3) ≡ 24 * choose x 4
four_product x = next_product x 3 6 (x * (x - 1) * (x - 2)) (three_product x) ∙ omega arith

pub term_chooses : (k x : ℕ) → k ≤ 4 → term k x ≡ choose x k
term_chooses zero x h = sym (choose_none x)
term_chooses (suc zero) x h = sym (choose_one x)
term_chooses (suc (suc zero)) x h = omega (arith, two_product x)
term_chooses (suc (suc (suc zero))) x h = omega (arith, three_product x)
term_chooses (suc (suc (suc (suc zero)))) x h = omega (arith, four_product x)
term_chooses (suc (suc (suc (suc (suc k))))) x h = absurd (omega arith)
