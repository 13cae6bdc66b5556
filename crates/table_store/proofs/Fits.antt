-- A change at one key leaves simplexes in range with their masks.
use Rattle.std.proofs.Common.{◌≡◌, ℕ, ◌<◌, true, List, [], ◌∷◌, Some, None, Option, Ordering, Less, Equal, Greater, refl}
use Rattle.std.proofs.lemmas.Bool.{and_parts, and_from, lt-ltb}
use Rattle.order.specs.Assoc.{by, bind, put}
use Rattle.complex.specs.Model.{Model}
use Rattle.complex.specs.Simplex.{colex, below}
use Rattle.simplex.specs.declared.simplex.Simplex.{Simplex}
use Rattle.simplex.specs.Simplexes.{vertices}
use Rattle.simplex.proofs.Corners.{vertices_proper}
use Rattle.store.specs.Contents.{fits}

bind_keeps_fits : (n : ℕ) (k : List ℕ) (o : Option ℕ) (M : Model) → fits n (bind k o []) ≡ true → fits n M ≡ true → fits n (bind k o M) ≡ true
bind_keeps_fits n k None M one f = f
bind_keeps_fits n k (Some m) M one f = and_from _ _ (and_parts _ _ one).0 f

pub put_keeps_fits : (n : ℕ) (k : List ℕ) (o : Option ℕ) (M : Model) → fits n (bind k o []) ≡ true → fits n M ≡ true → fits n (put colex k o M) ≡ true
put_keeps_fits n k o [] one f = one
put_keeps_fits n k o (r ∷ rs) one f = go (put_keeps_fits n k o rs one (and_parts _ _ f).1) (colex r.key k)
  where
    go : fits n (put colex k o rs) ≡ true → (a : Ordering) → fits n (by a (r ∷ put colex k o rs) (bind k o rs) (bind k o (r ∷ rs))) ≡ true
    go more Less = and_from _ _ (and_parts _ _ f).0 more
    go more Equal = bind_keeps_fits n k o rs one (and_parts _ _ f).1
    go more Greater = bind_keeps_fits n k o (r ∷ rs) one f

-- a simplex in range, with a mask from 1 to 255
pub one_fits : (n : ℕ) (s : Simplex) (m : ℕ) → below n (vertices s) ≡ true → 0 < m → m < 256 → fits n (bind (vertices s) (Some m) []) ≡ true
one_fits n s m b l h =
    and_from _ true (and_from _ _ (vertices_proper s) (and_from _ _ b (and_from _ _ (lt-ltb 0 m l) (lt-ltb m 256 h)))) refl
