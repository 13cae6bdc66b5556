-- Shapes are equal exactly where the order calls their vertices the same.
use Rattle.std.specs.Prelude.{◌≡◌, ℕ, Bool, ◌&&◌, [], ◌∷◌, ◌==◌, refl}
use Rattle.std.proofs.Common.{Ordering, Less, Equal, Greater, ap, ◌∙◌, arith}
use Rattle.std.proofs.Math.Bool.{and-false, and-true}
use Rattle.std.specs.Ordering.{is_eq, ordering_then, nat_cmp}
use Rattle.std.proofs.lemmas.Bool.Decides.{nat_tests}
use Rattle.complex.specs.Simplex.{colex}
use Rattle.simplex.specs.Shapes.{corners}
use Rattle.simplex.specs.declared.shape.Shape.{Shape}
use Rattle.simplex.specs.declared.shape.Shape.TheVariants.{Point, Edge, Triangle, Tetrahedron}
use Rattle.simplex.specs.contracts.shape.ShapePartialEq.TheImpl.{ghosts}

same : (a e : ℕ) → (a == e) ≡ is_eq (nat_cmp a e)
same a e = grind (arith, nat_tests)

-- one vertex more in front
more : (a e : ℕ) (p : Bool) (o : Ordering) → p ≡ is_eq o → (a == e && p) ≡ is_eq (ordering_then o (nat_cmp a e))
more a e p o h = ap (λ q. a == e && q) h ∙ go o
  where
    go : (o : Ordering) → (a == e && is_eq o) ≡ is_eq (ordering_then o (nat_cmp a e))
    go Less = and-false (a == e)
    go Equal = and-true (a == e) ∙ same a e
    go Greater = and-false (a == e)

two : (a b e f : ℕ) → (a == e && b == f) ≡ is_eq (colex (a ∷ (b ∷ [])) (e ∷ (f ∷ [])))
two a b e f = more a e _ _ (same b f)

three : (a b c e f g : ℕ) → (a == e && (b == f && c == g)) ≡ is_eq (colex (a ∷ (b ∷ (c ∷ []))) (e ∷ (f ∷ (g ∷ []))))
three a b c e f g = more a e _ _ (two b c f g)

pub alike : (x y : Shape) → ghosts.eq x y ≡ is_eq (colex (corners x) (corners y))
alike (Point a) (Point e) = same a e
alike (Point a) (Edge e f) = refl
alike (Point a) (Triangle e f g) = refl
alike (Point a) (Tetrahedron e f g h) = refl
alike (Edge a b) (Point e) = refl
alike (Edge a b) (Edge e f) = two a b e f
alike (Edge a b) (Triangle e f g) = refl
alike (Edge a b) (Tetrahedron e f g h) = refl
alike (Triangle a b c) (Point e) = refl
alike (Triangle a b c) (Edge e f) = refl
alike (Triangle a b c) (Triangle e f g) = three a b c e f g
alike (Triangle a b c) (Tetrahedron e f g h) = refl
alike (Tetrahedron a b c d) (Point e) = refl
alike (Tetrahedron a b c d) (Edge e f) = refl
alike (Tetrahedron a b c d) (Triangle e f g) = refl
alike (Tetrahedron a b c d) (Tetrahedron e f g h) = more a e _ _ (three b c d f g h)
