-- The bits of masks: of a union, of a single part, and that the bits tell a mask.
use Rattle.std.proofs.Common.{◌≡◌, ℕ, zero, suc, ◌+◌, ◌-◌, ◌*◌, ◌/◌, ◌%◌, ◌^◌, ◌<◌, true, false, ◌||◌, eqb, ◌⊎◌, sym, refl, ap, ◌∙◌, inl, inr, arith}
use native.Mathlib.Nat.{zero-div, div-eq_of_lt}
use lib.Bits.{bit_or, or_shr, or_mod}
use Rattle.std.proofs.lemmas.Nat.{pow-add, pow_below, shl-shr}
use Rattle.std.proofs.lemmas.Bool.{cases_order, eq-eqb, ne_eqb, true≢false}
use Rattle.complex.specs.Mask.{bit}

parity : (a : ℕ) → (a % 2 ≡ 0) ⊎ (a % 2 ≡ 1)
parity a = grind arith

lowest_of_or : (a b : ℕ) → eqb (bit_or a b % 2) 1 ≡ (eqb (a % 2) 1 || eqb (b % 2) 1)
lowest_of_or a b = rw (or_mod a b 1) (go (parity a) (parity b))
  where
    go : (a % 2 ≡ 0) ⊎ (a % 2 ≡ 1) → (b % 2 ≡ 0) ⊎ (b % 2 ≡ 1) → eqb (bit_or (a % 2) (b % 2)) 1 ≡ (eqb (a % 2) 1 || eqb (b % 2) 1)
    go (inl x) (inl y) = rw (x, y)
    go (inl x) (inr y) = rw (x, y)
    go (inr x) (inl y) = rw (x, y)
    go (inr x) (inr y) = rw (x, y)

pub bit_of_or : (p a b : ℕ) → bit p (bit_or a b) ≡ (bit p a || bit p b)
bit_of_or p a b = rw (or_shr a b p) (lowest_of_or (a / 2 ^ p) (b / 2 ^ p))

pub bit_of_none : (p : ℕ) → bit p 0 ≡ false
bit_of_none p = rw (zero-div (2 ^ p))

-- the mask of a single part has that part's bit alone
pub bit_of_part : (r p : ℕ) → bit r (2 ^ p) ≡ eqb r p
bit_of_part r p = go (cases_order r p)
  where
    go : (r ≡ p) ⊎ ((r < p) ⊎ (p < r)) → bit r (2 ^ p) ≡ eqb r p
    go (inl e) =
        let one : 1 * 2 ^ p ≡ 2 ^ p = omega arith in
        let d : 2 ^ p / 2 ^ p ≡ 1 = rw one at (shl-shr 1 p) in
        rw (e, d) (sym (eq-eqb p p refl))
    go (inr (inl l)) =
        let k = p - r - 1 in
        let split : p ≡ (k + 1) + r = omega arith in
        let d : 2 ^ p / 2 ^ r ≡ 2 ^ (k + 1) = ap (λ n. 2 ^ n / 2 ^ r) split ∙ ap (λ n. n / 2 ^ r) (pow-add 2 (k + 1) r) ∙ shl-shr (2 ^ (k + 1)) r in
        let e : 2 ^ (k + 1) ≡ 2 ^ k * 2 = pow-add 2 k 1 in
        let z : 2 ^ p / 2 ^ r % 2 ≡ 0 = omega (arith, d, e) in
        let n : (r ≡ p → ⊥) = omega arith in
        ap (λ m. eqb m 1) z ∙ sym (ne_eqb r p n)
    go (inr (inr l)) =
        let z : 2 ^ p / 2 ^ r ≡ 0 = div-eq_of_lt (pow_below p r l) in
        let n : (r ≡ p → ⊥) = omega arith in
        ap (λ m. eqb (m % 2) 1) z ∙ sym (ne_eqb r p n)

-- a mask with a bit is not empty
pub bit_holds : (p m : ℕ) → bit p m ≡ true → 0 < m
bit_holds p zero h = absurd (true≢false (sym h ∙ bit_of_none p))
bit_holds p (suc m) h = omega arith
