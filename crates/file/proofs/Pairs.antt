-- Numbers read off the bytes one after another.
use Rattle.std.proofs.Common.{◌≡◌, ℕ, zero, suc, ◌+◌, ◌*◌, ◌/◌, ◌≤◌, List, [], ◌∷◌, ◌++◌, length, map, get_or, take, refl, ap, ◌∙◌, arith}
use Rattle.std.proofs.lemmas.List.{append_assoc}
use Rattle.std.specs.Simd.{first_chunks}
use Rattle.file.specs.Numbers.{pairs}

-- the number that a pair of bytes makes
abbrev pub number_of_pair : List ℕ → ℕ
number_of_pair pair = 256 * get_or pair 0 0 + get_or pair 1 0

chunks_number : (k : ℕ) (bs : List ℕ) → 2 * k ≤ length bs → length bs ≤ 2 * k + 1 → map number_of_pair (first_chunks 2 k bs) ≡ pairs bs
chunks_number zero [] enough few = refl
chunks_number zero (b ∷ []) enough few = refl
chunks_number zero (hi ∷ lo ∷ bs) enough few = absurd (omega (arith, few))
chunks_number (suc k) [] enough few = absurd (omega (arith, enough))
chunks_number (suc k) (b ∷ []) enough few = absurd (omega (arith, enough))
chunks_number (suc k) (hi ∷ lo ∷ bs) enough few = ap (λ ns. (256 * hi + lo) ∷ ns) (chunks_number k bs (omega (arith, enough)) (omega (arith, few)))

-- the pairs of bytes make the numbers
pub pairs_number : (bs : List ℕ) → map number_of_pair (first_chunks 2 (length bs / 2) bs) ≡ pairs bs
pairs_number bs = chunks_number (length bs / 2) bs (omega arith) (omega arith)

-- one more number is that of the next pair
pub one_more : (ns new : List ℕ) (v : ℕ) (m n : ℕ) (pair : List ℕ) (more : List (List ℕ)) → new ≡ ns ++ v ∷ [] → v ≡ number_of_pair pair → m + 1 ≡ n → new ++ take m (map number_of_pair more) ≡ ns ++ take n (map number_of_pair (pair ∷ more))
one_more ns new v m n pair more longer is one =
    let k : suc m ≡ n = omega (arith, one) in
    (λ d. longer d ++ take m (map number_of_pair more)) ∙ append_assoc ns (v ∷ []) (take m (map number_of_pair more)) ∙ (λ d. ns ++ (is d ∷ take m (map number_of_pair more))) ∙ ap (λ n. ns ++ take n (map number_of_pair (pair ∷ more))) k
