-- The laws, from the lemmas.
use Rattle.std.proofs.Common.{◌≡◌, ℕ, ◌<◌, List, [], ◌∷◌, ◌++◌, length, Some, None, Option, Ordering, Less, Equal, Greater, unwrap_or, sym, refl, ap, ◌∙◌, arith}
use Rattle.std.specs.Ordering.{ordering_then, nat_cmp}
use Rattle.std.proofs.lemmas.Bool.{cond-true, lt-ltb}
use Rattle.order.specs.Assoc.{by, lookup}
use Rattle.order.proofs.Maps.{lookup_put, same_lookups}
use Rattle.order.proofs.Ranks.{self_same}
use Rattle.complex.specs.Laws.{OrderAsTold, WriteChangesOne, MasksTellModels, FacesAreSubsets}
use Rattle.complex.specs.Model.{mask, Legal}
use Rattle.complex.specs.Simplex.{colex}
use Rattle.complex.proofs.Faces.{listed_is_face, face_is_listed}
use Rattle.complex.proofs.Masks.{bit_holds}
use Rattle.complex.proofs.Order.{colex_lawful, colex_exact}
use Rattle.complex.proofs.Writes.{mask_write, write_keeps_order}

fewer_first : (s t : List ℕ) → length s < length t → colex s t ≡ Less
fewer_first [] [] h = absurd (omega arith)
fewer_first [] (y ∷ t) h = refl
fewer_first (x ∷ s) [] h = absurd (omega arith)
fewer_first (x ∷ s) (y ∷ t) h = ap (λ o. ordering_then o (nat_cmp x y)) (fewer_first s t (omega arith))

last_decides : (xs ys zs : List ℕ) (a b : ℕ) → length xs ≡ length ys → a < b → colex (xs ++ (a ∷ zs)) (ys ++ (b ∷ zs)) ≡ Less
last_decides [] [] zs a b e h = ap (λ o. ordering_then o (nat_cmp a b)) (self_same colex colex_lawful zs) ∙ cond-true _ _ _ (lt-ltb a b h)
last_decides [] (y ∷ ys) zs a b e h = absurd (omega arith)
last_decides (x ∷ xs) [] zs a b e h = absurd (omega arith)
last_decides (x ∷ xs) (y ∷ ys) zs a b e h = ap (λ o. ordering_then o (nat_cmp x y)) (last_decides xs ys zs a b (omega arith) h)

pub order_told : OrderAsTold
order_told = record { fewer = fewer_first; last = last_decides; lawful = colex_lawful; exact = colex_exact }

by_apart : (o : Ordering) (m n : ℕ) → (o ≡ Equal → ⊥) → by o m n m ≡ m
by_apart Less m n h = refl
by_apart Equal m n h = absurd (h refl)
by_apart Greater m n h = refl

pub writes_change_one : WriteChangesOne
writes_change_one = record {
  there = λ M s m u. mask_write M s s m u ∙ ap (λ o. by o (mask M s) m (mask M s)) (self_same colex colex_lawful s);
  removed = λ M s u. lookup_put colex colex_lawful colex_exact M s s None u ∙ ap (λ o. by o (lookup colex s M) None (lookup colex s M)) (self_same colex colex_lawful s);
  elsewhere = λ M s q m u n. mask_write M s q m u ∙ by_apart (colex q s) (mask M q) m (λ e. n (colex_exact q s e));
  ordered = write_keeps_order;
}

-- a value that is not 0 is told by its mask
value_told : (o p : Option ℕ) → (o ≡ Some 0 → ⊥) → (p ≡ Some 0 → ⊥) → unwrap_or o 0 ≡ unwrap_or p 0 → o ≡ p
value_told None None f g e = refl
value_told None (Some n) f g e = absurd (g (ap Some (sym e)))
value_told (Some m) None f g e = absurd (f (ap Some e))
value_told (Some m) (Some n) f g e = ap Some e

pub masks_tell : MasksTellModels
masks_tell M N u v f g e = same_lookups colex colex_lawful colex_exact M N u v (λ q. value_told (lookup colex q M) (lookup colex q N) (f q) (g q) (e q))

pub faces_told : FacesAreSubsets
faces_told = record { listed = face_is_listed; face = listed_is_face }

-- a model that holds nothing is legal
pub nothing_legal : Legal []
nothing_legal = record {
  body = λ s h. absurd (omega arith);
  closed = λ p s t i f. let h : 0 < 0 = bit_holds p 0 i in absurd (omega arith);
}
