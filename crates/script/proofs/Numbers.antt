-- Digits read one after another.
use Rattle.std.proofs.Common.{◌≡◌, ℕ, suc, ◌+◌, ◌-◌, ◌*◌, ◌^◌, ◌<◌, ◌≤◌, true, ◌&&◌, List, ◌∷◌, length, drop, get_or, sym, ap, ◌∙◌, mul-le-mul_right, mul_assoc, mul-le-mul_left, arith}
use native.Mathlib.Nat.{one-le-pow, pow-succ'}
use Rattle.std.specs.Char.{digit_value}
use Rattle.std.proofs.lemmas.List.{drop_more}
use Rattle.std.proofs.lemmas.Str.{digit_value_digit}
use Rattle.std.proofs.lemmas.Str.Parse.{digit_from_value}
use Rattle.std.proofs.lemmas.Bool.{le-leb, and_from}
use Rattle.script.specs.Line.{is_digit, all_digits, value}

-- n is what the digits of s before left stand for
pub record Sofar (s : List ℕ) (n : ℕ) (left : List ℕ) : Type 0 where
  pub same : value n left ≡ value 0 s
  pub digits : all_digits left ≡ all_digits s
  pub small : (n + 1) * 10 ^ length left ≤ 100000

pub sofar_small : (s : List ℕ) (n : ℕ) (left : List ℕ) → Sofar s n left → n < 100000
sofar_small s n left h =
    let one : 1 ≤ 10 ^ length left = one-le-pow (length left) 10 (omega arith) in
    let much : (n + 1) * 1 ≤ (n + 1) * 10 ^ length left = mul-le-mul_left (n + 1) one in
    omega (arith, h.small)

digit_between : (b : ℕ) → 48 ≤ b → b ≤ 57 → is_digit b ≡ true
digit_between b low high = and_from _ _ (le-leb 48 b low) (le-leb b 57 high)

first_digit_read : (s : List ℕ) (n b : ℕ) (left : List ℕ) → 48 ≤ b → b ≤ 57 → Sofar s n (b ∷ left) → Sofar s (n * 10 + (b - 48)) left
first_digit_read s n b left low high h =
    let up : (n * 10 + (b - 48) + 1) * 10 ^ length left ≤ ((n + 1) * 10) * 10 ^ length left = mul-le-mul_right (10 ^ length left) (omega arith) in
    let flat : ((n + 1) * 10) * 10 ^ length left ≡ (n + 1) * 10 ^ suc (length left) = mul_assoc (n + 1) 10 (10 ^ length left) ∙ ap (λ p. (n + 1) * p) (sym (pow-succ' 10 (length left))) in
    record {
      same = h.same;
      digits = ap (λ d. d && all_digits left) (sym (digit_between b low high)) ∙ h.digits;
      small = omega (arith, h.small);
    }

pub digit_read : (s : List ℕ) (n i v : ℕ) → i < length s → digit_value (get_or s i 0) < 10 → v ≡ digit_value (get_or s i 0) → Sofar s n (drop i s) → Sofar s (n * 10 + v) (drop (i + 1) s)
digit_read s n i v within digit is h =
    let b = get_or s i 0 in
    let range = digit_from_value b digit in
    let same : v ≡ b - 48 = omega (arith, digit_value_digit b range) in
    rw same (first_digit_read s n b (drop (i + 1) s) range.0 range.1 (rw (drop_more s i 0 within) at h))
