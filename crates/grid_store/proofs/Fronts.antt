-- A write into the front of a list.
use Rattle.std.proofs.Common.{◌≡◌, ℕ, zero, suc, ◌+◌, ◌<◌, ◌≤◌, List, [], ◌∷◌, length, take, drop, set, refl, ap, ◌∙◌, arith}
use Rattle.std.proofs.lemmas.List.{drop-set, length-set, length-take-le}
use Rattle.grid_store.specs.Masks.{grid_of, limit_over}

pub front_of_write : (n : ℕ) (xs : List ℕ) (i x : ℕ) → take n (set xs i x) ≡ set (take n xs) i x
front_of_write zero xs i x = refl
front_of_write (suc n) [] i x = refl
front_of_write (suc n) (y ∷ ys) zero x = refl
front_of_write (suc n) (y ∷ ys) (suc i) x = ap (λ zs. y ∷ zs) (front_of_write n ys i x)

-- a write just before what is read so far
pub read_from_write : (n : ℕ) (xs : List ℕ) (i x : ℕ) → i < n → n ≤ length xs → drop i (take n (set xs i x)) ≡ x ∷ drop (i + 1) (take n xs)
read_from_write n xs i x l h = ap (drop i) (front_of_write n xs i x) ∙ drop-set (take n xs) i x (omega (arith, length-take-le n xs h))

-- the bytes of the grid after a write
pub grid_of_write : (bs : List ℕ) (p m : ℕ) → grid_of (set bs p m) ≡ set (grid_of bs) p m
grid_of_write bs p m =
    ap (λ n. take (limit_over n) (set bs p m)) (length-set bs p m) ∙ front_of_write (limit_over (length bs)) bs p m
