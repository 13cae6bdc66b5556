-- Writing one mask: that simplex has it, all others are as before, and the simplexes stay in order.
use Rattle.std.proofs.Common.{◌≡◌, ℕ, zero, suc, ◌+◌, ◌≤◌, cond, List, length, Some, None, Option, Ordering, Less, Equal, Greater, unwrap_or, refl, ap, ◌∙◌, arith}
use Rattle.std.proofs.lemmas.Bool.{ne_eqb}
use Rattle.order.specs.Assoc.{by, lookup, weigh}
use Rattle.order.proofs.Puts.{put_keeps_rising}
use Rattle.order.proofs.Maps.{lookup_put, total_put, length_is_total}
use Rattle.complex.specs.Model.{Model, mask, present, write, Sorted}
use Rattle.complex.specs.Simplex.{colex}
use Rattle.complex.proofs.Order.{colex_lawful, colex_exact}

pub value_present : (m : ℕ) → unwrap_or (present m) 0 ≡ m
value_present zero = refl
value_present (suc m) = ap (λ b. unwrap_or (cond b None (Some (suc m))) 0) (ne_eqb (suc m) 0 (omega arith))

pub mask_write : (M : Model) (s q : List ℕ) (m : ℕ) → Sorted M → mask (write M s m) q ≡ by (colex q s) (mask M q) m (mask M q)
mask_write M s q m u = ap (λ o. unwrap_or o 0) (lookup_put colex colex_lawful colex_exact M s q (present m) u) ∙ go (colex q s)
  where
    go : (o : Ordering) → unwrap_or (by o (lookup colex q M) (present m) (lookup colex q M)) 0 ≡ by o (mask M q) m (mask M q)
    go Less = refl
    go Equal = value_present m
    go Greater = refl

pub write_keeps_order : (M : Model) (s : List ℕ) (m : ℕ) → Sorted M → Sorted (write M s m)
write_keeps_order M s m u = put_keeps_rising colex colex_lawful s (present m) M u

one_at_most : (s : List ℕ) (o : Option ℕ) → weigh (λ _ _. 1) s o ≤ 1
one_at_most s None = omega arith
one_at_most s (Some m) = omega arith

pub write_adds_one_at_most : (M : Model) (s : List ℕ) (m : ℕ) → Sorted M → length (write M s m) ≤ length M + 1
write_adds_one_at_most M s m u =
    omega (arith, total_put colex colex_lawful colex_exact (λ _ _. 1) M s (present m) u, length_is_total M, length_is_total (write M s m), one_at_most s (present m))
