-- What is asked of the model of the bytes, or done to it, is asked of the byte at a simplex's place, or done to it.
use Rattle.std.proofs.Common.{◌≡◌, ℕ, zero, suc, ◌+◌, ◌<◌, ◌≤◌, true, List, [], ◌∷◌, length, get_or, drop, set, Some, None, Option, Less, refl, ap, ◌∙◌, arith, length-drop}
use Rattle.std.specs.Ordering.{is_lt, nat_cmp}
use Rattle.std.proofs.lemmas.List.{drop-drop}
use Rattle.std.proofs.lemmas.Bool.{and_parts, and_from}
use Rattle.std.proofs.lemmas.Bool.Decides.{nat_tests}
use Rattle.order.specs.Assoc.{by, before, lookup, bind, put, later}
use Rattle.order.proofs.Ranks.{is_less, self_same, exchanged}
use Rattle.order.proofs.Maps.{lookup_before}
use Rattle.complex.specs.Model.{Model, present}
use Rattle.complex.specs.Simplex.{colex}
use Rattle.complex.proofs.Order.{colex_lawful}
use Rattle.grid_store.specs.Places.{places, simplex_at}
use Rattle.grid_store.specs.Masks.{masks_from}
use Rattle.grid_store.proofs.Chosen.{simplexes_rise}

pub rank_less : (m n : ℕ) → m < n → nat_cmp m n ≡ Less
rank_less m n l = grind (arith, nat_tests)

pub earlier : (p q : ℕ) → p < q → q < places → colex (simplex_at p) (simplex_at q) ≡ Less
earlier p q l h = simplexes_rise p q (omega arith) h ∙ rank_less p q l

-- s is earlier than every simplex from the place p on
abbrev pub Earlier : List ℕ → ℕ → Type 0
Earlier s p = (k : ℕ) → p ≤ k → k < places → colex s (simplex_at k) ≡ Less

before_masks : (s : List ℕ) (p : ℕ) (bs : List ℕ) → p + length bs ≤ places → Earlier s p → before colex s (masks_from p bs) ≡ true
before_masks s p [] h f = refl
before_masks s p (b ∷ bs) h f = go (present b) (before_masks s (suc p) bs (omega arith) (λ k l. f k (omega arith)))
  where
    go : (o : Option ℕ) → before colex s (masks_from (suc p) bs) ≡ true → before colex s (bind (simplex_at p) o (masks_from (suc p) bs)) ≡ true
    go None more = more
    go (Some m) more = and_from _ _ (ap is_lt (f p (omega arith) (omega arith))) more

before_rest : (p : ℕ) (bs : List ℕ) → suc p + length bs ≤ places → before colex (simplex_at p) (masks_from (suc p) bs) ≡ true
before_rest p bs h = before_masks (simplex_at p) (suc p) bs h (λ k l. earlier p k (omega arith))

-- the simplex at p is later than a record at q, which is passed over
module _ {X : Type 0} (p q : ℕ) (l : q < p) (h : p < places) where
  passed : (x y z : X) → by (colex (simplex_at q) (simplex_at p)) x y z ≡ x
  passed x y z = ap (λ o. by o x y z) (earlier q p l h)

reached : {X : Type 0} (p : ℕ) (x y z : X) → by (colex (simplex_at p) (simplex_at p)) x y z ≡ y
reached p x y z = ap (λ o. by o x y z) (self_same colex colex_lawful (simplex_at p))

-- below, the byte of the simplex at the place p + i is the i-th from the place p on
pub lookup_masks : (p i q : ℕ) (bs : List ℕ) → q ≡ p + i → q < places → p + length bs ≤ places → lookup colex (simplex_at q) (masks_from p bs) ≡ present (get_or bs i 0)
lookup_masks p i q [] e l h = refl
lookup_masks p zero q (b ∷ bs) e l h =
    ap (λ r. lookup colex (simplex_at r) (masks_from p (b ∷ bs))) (let f : q ≡ p = omega arith in f)
    ∙ go (present b) (before_rest p bs (omega arith))
  where
    go : (o : Option ℕ) → before colex (simplex_at p) (masks_from (suc p) bs) ≡ true → lookup colex (simplex_at p) (bind (simplex_at p) o (masks_from (suc p) bs)) ≡ o
    go None b = lookup_before colex colex_lawful (simplex_at p) (masks_from (suc p) bs) b
    go (Some m) b = reached p (lookup colex (simplex_at p) (masks_from (suc p) bs)) (Some m) None
lookup_masks p (suc i) q (b ∷ bs) e l h = go (present b) (lookup_masks (suc p) i q bs (omega arith) l (omega arith))
  where
    go : (o : Option ℕ) → lookup colex (simplex_at q) (masks_from (suc p) bs) ≡ present (get_or bs i 0) → lookup colex (simplex_at q) (bind (simplex_at p) o (masks_from (suc p) bs)) ≡ present (get_or bs i 0)
    go None more = more
    go (Some m) more = passed q p (omega arith) l (lookup colex (simplex_at q) (masks_from (suc p) bs)) (Some m) None ∙ more

put_before : (s : List ℕ) (o : Option ℕ) (M : Model) → before colex s M ≡ true → put colex s o M ≡ bind s o M
put_before s o [] b = refl
put_before s o (r ∷ rs) b =
    ap (λ a. by a (r ∷ put colex s o rs) (bind s o rs) (bind s o (r ∷ rs))) (exchanged colex colex_lawful s r.key Less (is_less _ (and_parts _ _ b).0))

pub put_masks : (p i q : ℕ) (bs : List ℕ) (m : ℕ) → q ≡ p + i → i < length bs → p + length bs ≤ places → put colex (simplex_at q) (present m) (masks_from p bs) ≡ masks_from p (set bs i m)
put_masks p i q [] m e l h = absurd (omega arith)
put_masks p zero q (b ∷ bs) m e l h =
    ap (λ r. put colex (simplex_at r) (present m) (masks_from p (b ∷ bs))) (let f : q ≡ p = omega arith in f)
    ∙ go (present b) (before_rest p bs (omega arith))
  where
    M : Model
    M = masks_from (suc p) bs

    go : (o : Option ℕ) → before colex (simplex_at p) M ≡ true → put colex (simplex_at p) (present m) (bind (simplex_at p) o M) ≡ bind (simplex_at p) (present m) M
    go None b = put_before (simplex_at p) (present m) M b
    go (Some v) b = reached p _ (bind (simplex_at p) (present m) M) _
put_masks p (suc i) q (b ∷ bs) m e l h = go (present b) (put_masks (suc p) i q bs m (omega arith) (omega arith) (omega arith))
  where
    M : Model
    M = masks_from (suc p) bs

    go : (o : Option ℕ) → put colex (simplex_at q) (present m) M ≡ masks_from (suc p) (set bs i m) → put colex (simplex_at q) (present m) (bind (simplex_at p) o M) ≡ bind (simplex_at p) o (masks_from (suc p) (set bs i m))
    go None more = more
    go (Some v) more = passed q p (omega arith) (omega arith) _ _ _ ∙ ap (bind (simplex_at p) (Some v)) more

later_before : (s : List ℕ) (M : Model) → before colex s M ≡ true → later colex s M ≡ M
later_before s [] b = refl
later_before s (r ∷ rs) b =
    ap (λ a. by a (later colex s rs) rs (r ∷ rs)) (exchanged colex colex_lawful s r.key Less (is_less _ (and_parts _ _ b).0))

-- what is earlier than s is passed over
skipped : (s : List ℕ) (p i q : ℕ) (bs : List ℕ) → q ≡ p + i → p + length bs ≤ places → ((k : ℕ) → k < q → k < places → colex (simplex_at k) s ≡ Less) →
    later colex s (masks_from p bs) ≡ later colex s (masks_from q (drop i bs))
skipped s p zero q bs e h f = ap (λ r. later colex s (masks_from r bs)) (let g : p ≡ q = omega arith in g)
skipped s p (suc i) q [] e h f = refl
skipped s p (suc i) q (b ∷ bs) e h f = go (present b) (skipped s (suc p) i q bs (omega arith) (omega arith) f)
  where
    M : Model
    M = masks_from (suc p) bs

    go : (o : Option ℕ) → later colex s M ≡ later colex s (masks_from q (drop i bs)) → later colex s (bind (simplex_at p) o M) ≡ later colex s (masks_from q (drop i bs))
    go None more = more
    go (Some m) more = ap (λ o. by o (later colex s M) M (record { key = simplex_at p; value = m } ∷ M)) (f p (omega arith) (omega arith)) ∙ more

later_here : (p : ℕ) (bs : List ℕ) → p + length bs ≤ places → later colex (simplex_at p) (masks_from p bs) ≡ masks_from (p + 1) (drop 1 bs)
later_here p [] h = refl
later_here p (b ∷ bs) h = go (present b) (before_rest p bs (omega arith)) ∙ ap (λ r. masks_from r bs) (let g : suc p ≡ p + 1 = omega arith in g)
  where
    M : Model
    M = masks_from (suc p) bs

    go : (o : Option ℕ) → before colex (simplex_at p) M ≡ true → later colex (simplex_at p) (bind (simplex_at p) o M) ≡ M
    go None b = later_before (simplex_at p) M b
    go (Some m) b = reached p _ M _

within : (q : ℕ) (bs : List ℕ) → length bs ≤ places → q ≤ places → q + length (drop q bs) ≤ places
within q bs h l = omega (arith, length-drop q bs)

-- later than the simplex at a place is what stands from the next place on
pub later_place : (q : ℕ) (bs : List ℕ) → q < places → length bs ≤ places → later colex (simplex_at q) (masks_from 0 bs) ≡ masks_from (q + 1) (drop (q + 1) bs)
later_place q bs l h =
    skipped (simplex_at q) 0 q q bs (omega arith) (omega arith) (λ k f g. earlier k q f l)
    ∙ later_here q (drop q bs) (within q bs h (omega arith))
    ∙ ap (masks_from (q + 1)) (drop-drop 1 q bs)

-- between two places stands no simplex; later than what is between them is what stands from the second on
pub later_between : (s : List ℕ) (q : ℕ) (bs : List ℕ) → q ≤ places → length bs ≤ places → ((k : ℕ) → k < q → k < places → colex (simplex_at k) s ≡ Less) → Earlier s q →
    later colex s (masks_from 0 bs) ≡ masks_from q (drop q bs)
later_between s q bs l h f g =
    skipped s 0 q q bs (omega arith) (omega arith) f
    ∙ later_before s (masks_from q (drop q bs)) (before_masks s q (drop q bs) (within q bs h l) g)
