-- The order of simplexes obeys the laws of an order, and tells simplexes apart.
use Rattle.std.proofs.Common.{◌≡◌, ℕ, List, [], ◌∷◌, Ordering, Less, Equal, Greater, sym, refl, ap, ◌∙◌, arith}
use Rattle.std.specs.Cmp.{IsTotalOrder, nat_cmp_total}
use Rattle.std.specs.Ordering.{ordering_then, ordering_reverse, nat_cmp}
use Rattle.std.proofs.lemmas.Bool.Decides.{nat_tests}
use Rattle.order.specs.Assoc.{Exact}
use Rattle.complex.specs.Simplex.{colex}

then_flips : (a b s t : Ordering) → a ≡ ordering_reverse b → s ≡ ordering_reverse t → ordering_then a s ≡ ordering_reverse (ordering_then b t)
then_flips a Less s t p q = ap (λ o. ordering_then o s) p
then_flips a Equal s t p q = ap (λ o. ordering_then o s) p ∙ q
then_flips a Greater s t p q = ap (λ o. ordering_then o s) p

colex_flip : (x y : List ℕ) → colex x y ≡ ordering_reverse (colex y x)
colex_flip [] [] = refl
colex_flip [] (b ∷ y) = refl
colex_flip (a ∷ x) [] = refl
colex_flip (a ∷ x) (b ∷ y) = then_flips (colex x y) (colex y x) (nat_cmp a b) (nat_cmp b a) (colex_flip x y) (nat_cmp_total.antisymm a b)

then_same : (o : Ordering) (a b : ℕ) → ordering_then o (nat_cmp a b) ≡ Equal → (o ≡ Equal) × (a ≡ b)
then_same Less a b h = (cc, cc)
then_same Equal a b h = (refl, grind (arith, nat_tests))
then_same Greater a b h = (cc, cc)

pub colex_exact : Exact colex
colex_exact [] [] e = refl
colex_exact [] (b ∷ y) e = cc
colex_exact (a ∷ x) [] e = cc
colex_exact (a ∷ x) (b ∷ y) e =
    let h = then_same (colex x y) a b e in
    let tails = colex_exact x y h.0 in
    let heads = h.1 in
    cc

then_chains : (s t u : Ordering) (a b c : ℕ) → (s ≡ Less → t ≡ Less → u ≡ Less) → (s ≡ Equal → u ≡ t) → (t ≡ Equal → u ≡ s) →
    ordering_then s (nat_cmp a b) ≡ Less → ordering_then t (nat_cmp b c) ≡ Less → ordering_then u (nat_cmp a c) ≡ Less
then_chains s t u a b c f g h p q = grind (arith, nat_tests)

colex_chain : (x y z : List ℕ) → colex x y ≡ Less → colex y z ≡ Less → colex x z ≡ Less
colex_chain [] [] z p q = cc
colex_chain [] (b ∷ y) [] p q = cc
colex_chain [] (b ∷ y) (c ∷ z) p q = refl
colex_chain (a ∷ x) [] z p q = cc
colex_chain (a ∷ x) (b ∷ y) [] p q = cc
colex_chain (a ∷ x) (b ∷ y) (c ∷ z) p q =
    then_chains (colex x y) (colex y z) (colex x z) a b c (colex_chain x y z) (λ e. ap (λ w. colex w z) (colex_exact x y e)) (λ e. ap (colex x) (sym (colex_exact y z e))) p q

pub colex_lawful : IsTotalOrder colex
colex_lawful = record {
  antisymm = colex_flip;
  trans = colex_chain;
  congr = λ x y z e. ap (λ w. colex w z) (colex_exact x y e);
}
