-- An emptied grid holds nothing.
use Rattle.std.proofs.Common.{◌≡◌, ℕ, zero, suc, ◌≤◌, ltb, List, [], ◌++◌, length, take, drop, replicate, refl, ap, ◌∙◌, arith, length-append, length-drop}
use Rattle.std.proofs.lemmas.List.{length-replicate, take_at}
use Rattle.std.proofs.lemmas.Bool.{cond_both, ltb-false}
use Rattle.grid_store.specs.Places.{places}
use Rattle.grid_store.specs.Masks.{masks_from, emptied, grid_of, limit_over}

pub limit_lent : (n : ℕ) → limit_over n ≤ n
limit_lent n = cond_both (ltb n places) 0 places (λ l. l ≤ n) (λ _. omega arith) (λ e. ltb-false n places e)

zeros_hold_nothing : (p n : ℕ) → masks_from p (replicate n 0) ≡ []
zeros_hold_nothing p zero = refl
zeros_hold_nothing p (suc n) = zeros_hold_nothing (suc p) n

pub emptied_holds_nothing : (n : ℕ) (bs : List ℕ) → masks_from 0 (take n (replicate n 0 ++ bs)) ≡ []
emptied_holds_nothing n bs =
    ap (masks_from 0) (take_at (replicate n 0) bs n (length-replicate n 0)) ∙ zeros_hold_nothing 0 n

-- so does the grid over lent bytes once they are emptied
pub emptied_grid_holds_nothing : (bs : List ℕ) → masks_from 0 (grid_of (emptied bs)) ≡ []
emptied_grid_holds_nothing bs =
    let n = limit_over (length bs) in
    let long : length (emptied bs) ≡ length bs = omega (arith, limit_lent (length bs), length-append (replicate n 0) (drop n bs), length-replicate {A = ℕ} n 0, length-drop n bs) in
    ap (λ l. masks_from 0 (take (limit_over l) (emptied bs))) long ∙ emptied_holds_nothing n (drop n bs)
