-- The element at a place of a list, and the elements from there on.
use Rattle.std.proofs.Common.{◌≡◌, ℕ, zero, suc, ◌+◌, List, [], ◌∷◌, drop, Some, ap, sym, ◌∙◌, add-one}
use Rattle.std.specs.List.{slice_get}

pub drop_from_there : {X : Type 0} (xs : List X) (i : ℕ) (x : X) → slice_get xs i ≡ Some x → drop i xs ≡ x ∷ drop (i + 1) xs
drop_from_there {X = X} xs i x h = go xs i h ∙ ap (λ n. x ∷ drop n xs) (sym (add-one i))
  where
    go : (xs : List X) (i : ℕ) → slice_get xs i ≡ Some x → drop i xs ≡ x ∷ drop (suc i) xs
    go [] i h = cc
    go (y ∷ ys) zero h = let e : y ≡ x = cc in ap (λ z. z ∷ ys) e
    go (y ∷ ys) (suc i) h = go ys i h
