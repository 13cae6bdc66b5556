-- The bases of a collapsed model are those of two walks over the model before, merged in order.
use Rattle.std.proofs.Common.{◌≡◌, ℕ, zero, suc, ◌<◌, ◌≤◌, Bool, true, false, cond, ◌⊎◌, List, [], ◌∷◌, Some, Ordering, Less, Equal, Greater, sym, refl, ap, ◌∙◌, ap₂, inl, inr, arith}
use lib.Bits.{bit_or, or_add_and, and_le_l, and_le_r}
use Rattle.std.specs.Ordering.{is_eq, ordering_reverse}
use Rattle.std.proofs.lemmas.Bool.{and_parts, and_from, cases_Bool, true≢false}
use Rattle.std.proofs.lemmas.Bool.Decides.{nat_tests}
use Rattle.order.specs.Assoc.{by, before}
use Rattle.order.specs.declared.record.Record.{Record}
use Rattle.order.proofs.Ranks.{self_same, exchanged}
use Rattle.complex.specs.Model.{Model, mask, Sorted}
use Rattle.complex.specs.Simplex.{colex, has, plus, less, Under, Rising}
use Rattle.complex.proofs.Faces.{under_lacks, same_as_itself}
use Rattle.complex.proofs.Order.{colex_lawful, colex_exact}
use Rattle.collapse.specs.Image.{collapse}
use Rattle.collapse.specs.Laws.{Positive, Shaped, Sound, merged}
use Rattle.collapse.specs.Link.{Base}
use Rattle.collapse.specs.Split.{bases, former, pairs_of}
use Rattle.collapse.proofs.Eulers.{Member}
use Rattle.collapse.proofs.Images.{Listed, before_listed, listed_lookup, listed_mask, held_listed, collapse_positive, image_rule, image_masks}
use Rattle.collapse.proofs.Legals.{collapse_keeps_legal}
use Rattle.collapse.proofs.Splits.{listed_base}
use Rattle.collapse.proofs.Vertices.{has_less, less_rising, less_plus, plus_less, plus_rising, with_u_has_u, with_u_lacks_v}
use Rattle.model.specs.Notes.{lacking, bases_without, insert, merged_lists, head, past_base, lesser}

-- what is above u stands to a list with u as to that list with u taken away and something lower added
under_greater : (u y : ℕ) (xs ys : List ℕ) → Under u xs → Rising (y ∷ ys) → has u ys ≡ true → colex xs (y ∷ less u ys) ≡ colex xs ys
under_greater u y xs [] o r h = absurd (true≢false (sym h))
under_greater u y [] (z ∷ zs) o r h = refl
under_greater u y (x ∷ xs) (z ∷ zs) o r h =
    let more : has u zs ≡ true → colex xs (z ∷ less u zs) ≡ colex xs zs = under_greater u z xs zs o.1 r.1 in
    let above : u ≤ z → has u zs ≡ false = λ e. under_lacks z u zs e r.1.0 in
    grind (arith, nat_tests)

-- a common vertex taken away leaves the order
less_keeps_order : (u : ℕ) (s t : List ℕ) → Rising s → Rising t → has u s ≡ true → has u t ≡ true → colex (less u s) (less u t) ≡ colex s t
less_keeps_order u [] t r c h k = absurd (true≢false (sym h))
less_keeps_order u (x ∷ s) [] r c h k = absurd (true≢false (sym k))
less_keeps_order u (x ∷ s) (y ∷ t) r c h k =
    let more : has u s ≡ true → has u t ≡ true → colex (less u s) (less u t) ≡ colex s t = less_keeps_order u s t r.1 c.1 in
    let left : u ≡ x → has u t ≡ true → colex s (y ∷ less u t) ≡ colex s t = λ e i. under_greater u y s t (rw e r.0) c i in
    let right : u ≡ y → has u s ≡ true → colex (x ∷ less u s) t ≡ colex s t =
    λ e i. colex_lawful.antisymm (x ∷ less u s) t ∙ ap ordering_reverse (under_greater u x t s (rw e c.0) r i) ∙ sym (colex_lawful.antisymm s t) in
    let same : colex s t ≡ Equal → has u s ≡ has u t = λ e. ap (has u) (colex_exact s t e) in
    let no_left : u ≡ x → has u s ≡ false = λ e. under_lacks x u s (omega arith) r.0 in
    let no_right : u ≡ y → has u t ≡ false = λ e. under_lacks y u t (omega arith) c.0 in
    grind (arith, nat_tests)

-- x is less than each of these
abbrev Before : List ℕ → List (List ℕ) → Type 0
Before x [] = Unit {0}
Before x (y ∷ ys) = (colex x y ≡ Less) × Before x ys

-- each is less than those after it
abbrev pub Ordered : List (List ℕ) → Type 0
Ordered [] = Unit {0}
Ordered (x ∷ xs) = Before x xs × Ordered xs

before_member : (x q : List ℕ) (ys : List (List ℕ)) → Before x ys → Member q ys → colex x q ≡ Less
before_member x q [] b m = absurd m
before_member x q (y ∷ ys) b (inl e) = ap (colex x) e ∙ b.0
before_member x q (y ∷ ys) b (inr m) = before_member x q ys b.1 m

before_less : (x y : List ℕ) (ys : List (List ℕ)) → colex x y ≡ Less → Before y ys → Before x ys
before_less x y [] e b = tt
before_less x y (z ∷ zs) e b = (colex_lawful.trans x y z e b.0, before_less x y zs e b.1)

never_less : (x : List ℕ) → colex x x ≡ Less → ⊥
never_less x e = let s = self_same colex colex_lawful x in let z : ◌≡◌ {A = ℕ} 0 1 = cc in omega arith

-- lists in order are told by their members
same_members : (xs ys : List (List ℕ)) → Ordered xs → Ordered ys → ((q : List ℕ) → Member q xs → Member q ys) → ((q : List ℕ) → Member q ys → Member q xs) → xs ≡ ys
same_members [] [] o c f g = refl
same_members [] (y ∷ ys) o c f g = absurd (g y (inl refl))
same_members (x ∷ xs) [] o c f g = absurd (f x (inl refl))
same_members (x ∷ xs) (y ∷ ys) o c f g = joined heads (same_members xs ys o.1 c.1 into back)
  where
    joined : x ≡ y → xs ≡ ys → x ∷ xs ≡ y ∷ ys
    joined e f = cc

    heads : x ≡ y
    heads = go (f x (inl refl)) (g y (inl refl))
      where
        go : Member x (y ∷ ys) → Member y (x ∷ xs) → x ≡ y
        go (inl e) m = e
        go (inr m) (inl e) = sym e
        go (inr m) (inr k) = absurd (never_less x (colex_lawful.trans x y x (before_member x y xs o.0 k) (before_member y x ys c.0 m)))

    into : (q : List ℕ) → Member q xs → Member q ys
    into q m = go (f q (inr m))
      where
        go : Member q (y ∷ ys) → Member q ys
        go (inl e) = absurd (never_less x (ap (colex x) (heads ∙ sym e) ∙ before_member x q xs o.0 m))
        go (inr k) = k

    back : (q : List ℕ) → Member q ys → Member q xs
    back q m = go (g q (inr m))
      where
        go : Member q (x ∷ xs) → Member q xs
        go (inl e) = absurd (never_less y (ap (colex y) (sym heads ∙ sym e) ∙ before_member y q ys c.0 m))
        go (inr k) = k

before_from : (x : List ℕ) (ys : List (List ℕ)) → ((q : List ℕ) → Member q ys → colex x q ≡ Less) → Before x ys
before_from x [] f = tt
before_from x (y ∷ ys) f = (f y (inl refl), before_from x ys (λ q m. f q (inr m)))

-- merged lists
insert_member : (q x : List ℕ) (ys : List (List ℕ)) → (q ≡ x) ⊎ Member q ys → Member q (insert x ys)
insert_member q x [] m = m
insert_member q x (y ∷ ys) m = go (insert_member q x ys) (colex x y) refl m
  where
    go : ((q ≡ x) ⊎ Member q ys → Member q (insert x ys)) → (o : Ordering) → colex x y ≡ o → (q ≡ x) ⊎ Member q (y ∷ ys) → Member q (by o (x ∷ (y ∷ ys)) (y ∷ ys) (y ∷ insert x ys))
    go more Less e m = m
    go more Equal e (inl f) = inl (f ∙ colex_exact x y e)
    go more Equal e (inr m) = m
    go more Greater e (inl f) = inr (more (inl f))
    go more Greater e (inr (inl f)) = inl f
    go more Greater e (inr (inr m)) = inr (more (inr m))

member_insert : (q x : List ℕ) (ys : List (List ℕ)) → Member q (insert x ys) → (q ≡ x) ⊎ Member q ys
member_insert q x [] m = m
member_insert q x (y ∷ ys) m = go (member_insert q x ys) (colex x y) m
  where
    go : (Member q (insert x ys) → (q ≡ x) ⊎ Member q ys) → (o : Ordering) → Member q (by o (x ∷ (y ∷ ys)) (y ∷ ys) (y ∷ insert x ys)) → (q ≡ x) ⊎ Member q (y ∷ ys)
    go more Less m = m
    go more Equal m = inr m
    go more Greater (inl f) = inr (inl f)
    go more Greater (inr m) = elim (more m) [ inl f ↦ inl f | inr k ↦ inr (inr k) ]

insert_ordered : (x : List ℕ) (ys : List (List ℕ)) → Ordered ys → Ordered (insert x ys)
insert_ordered x [] o = (tt, tt)
insert_ordered x (y ∷ ys) o = go (insert_ordered x ys o.1) (colex x y) refl
  where
    go : Ordered (insert x ys) → (a : Ordering) → colex x y ≡ a → Ordered (by a (x ∷ (y ∷ ys)) (y ∷ ys) (y ∷ insert x ys))
    go more Less e = ((e, before_less x y ys e o.0), o)
    go more Equal e = o
    go more Greater e = (before_from y (insert x ys) (λ q m. elim (member_insert q x ys m) [ inl f ↦ ap (colex y) f ∙ exchanged colex colex_lawful x y Greater e | inr k ↦ before_member y q ys o.0 k ]), more)

merged_member : (q : List ℕ) (xs ys : List (List ℕ)) → Member q xs ⊎ Member q ys → Member q (merged_lists xs ys)
merged_member q [] ys (inl m) = absurd m
merged_member q [] ys (inr m) = m
merged_member q (x ∷ xs) ys (inl (inl e)) = insert_member q x (merged_lists xs ys) (inl e)
merged_member q (x ∷ xs) ys (inl (inr m)) = insert_member q x (merged_lists xs ys) (inr (merged_member q xs ys (inl m)))
merged_member q (x ∷ xs) ys (inr m) = insert_member q x (merged_lists xs ys) (inr (merged_member q xs ys (inr m)))

member_merged : (q : List ℕ) (xs ys : List (List ℕ)) → Member q (merged_lists xs ys) → Member q xs ⊎ Member q ys
member_merged q [] ys m = inr m
member_merged q (x ∷ xs) ys m = go (member_merged q xs ys) (member_insert q x (merged_lists xs ys) m)
  where
    go : (Member q (merged_lists xs ys) → Member q xs ⊎ Member q ys) → (q ≡ x) ⊎ Member q (merged_lists xs ys) → Member q (x ∷ xs) ⊎ Member q ys
    go more (inl e) = inl (inl e)
    go more (inr k) = elim (more k) [ inl a ↦ inl (inr a) | inr b ↦ inr b ]

merged_ordered : (xs ys : List (List ℕ)) → Ordered ys → Ordered (merged_lists xs ys)
merged_ordered [] ys o = o
merged_ordered (x ∷ xs) ys o = insert_ordered x (merged_lists xs ys) (merged_ordered xs ys o)

before_merged : (x : List ℕ) (xs ys : List (List ℕ)) → Before x xs → Before x ys → Before x (merged_lists xs ys)
before_merged x xs ys b c =
    before_from x (merged_lists xs ys) (λ q m. elim (member_merged q xs ys m) [ inl i ↦ before_member x q xs b i | inr k ↦ before_member x q ys c k ])

insert_first : (x : List ℕ) (ys : List (List ℕ)) → Before x ys → insert x ys ≡ x ∷ ys
insert_first x [] b = refl
insert_first x (y ∷ ys) b = ap (λ o. by o (x ∷ (y ∷ ys)) (y ∷ ys) (y ∷ insert x ys)) b.0

-- what is less than all of one list stays in front of what follows it in the other
merged_first : (y : List ℕ) (xs ys : List (List ℕ)) → Before y xs → merged_lists xs (y ∷ ys) ≡ y ∷ merged_lists xs ys
merged_first y [] ys b = refl
merged_first y (x ∷ xs) ys b =
    ap (insert x) (merged_first y xs ys b.1)
    ∙ ap (λ o. by o (x ∷ (y ∷ merged_lists xs ys)) (y ∷ merged_lists xs ys) (y ∷ insert x (merged_lists xs ys))) (exchanged colex colex_lawful y x Less b.0)

past_itself : (x : List ℕ) (xs : List (List ℕ)) → past_base x (x ∷ xs) ≡ xs
past_itself x xs = ap (λ b. cond b xs (x ∷ xs)) (same_as_itself x)

past_other : (q x : List ℕ) (xs : List (List ℕ)) (o : Ordering) → colex x q ≡ o → is_eq o ≡ false → past_base q (x ∷ xs) ≡ x ∷ xs
past_other q x xs o e n = ap (λ b. cond b xs (x ∷ xs)) (ap is_eq e ∙ n)

-- the lesser of the first members is the first of the merged list, and the rest is merged from what is left
pub merged_step : (xs ys : List (List ℕ)) (z : List ℕ) → Ordered xs → Ordered ys → Some z ≡ lesser (head xs) (head ys) →
    merged_lists xs ys ≡ z ∷ merged_lists (past_base z xs) (past_base z ys)
merged_step [] [] z o c h = let n : ◌≡◌ {A = ℕ} 0 1 = cc in absurd (omega arith)
merged_step [] (y ∷ ys) z o c h = let e : z ≡ y = cc in rw e (ap (λ L. y ∷ L) (sym (past_itself y ys)))
merged_step (x ∷ xs) [] z o c h =
    let e : z ≡ x = cc in
    rw e (insert_first x (merged_lists xs []) (before_merged x xs [] o.0 tt) ∙ ap (λ L. x ∷ merged_lists L []) (sym (past_itself x xs)))
merged_step (x ∷ xs) (y ∷ ys) z o c h = go (colex x y) refl h
  where
    go : (a : Ordering) → colex x y ≡ a → Some z ≡ Some (by a x x y) → merged_lists (x ∷ xs) (y ∷ ys) ≡ z ∷ merged_lists (past_base z (x ∷ xs)) (past_base z (y ∷ ys))
    go Less a h =
        let e : z ≡ x = cc in
        let other = past_other x y ys Greater (exchanged colex colex_lawful x y Less a) refl in
        rw e (insert_first x (merged_lists xs (y ∷ ys)) (before_merged x xs (y ∷ ys) o.0 (a, before_less x y ys a c.0))
        ∙ ap₂ (λ K L. x ∷ merged_lists K L) (sym (past_itself x xs)) (sym other))
    go Equal a h =
        let e : z ≡ y = (let i : z ≡ x = cc in i ∙ colex_exact x y a) in
        let mine : past_base y (x ∷ xs) ≡ xs = ap (λ b. cond (is_eq b) xs (x ∷ xs)) a in
        rw e (ap (insert x) (merged_first y xs ys (rw (colex_exact x y a) at o.0))
        ∙ ap (λ b. by b (x ∷ (y ∷ merged_lists xs ys)) (y ∷ merged_lists xs ys) (y ∷ insert x (merged_lists xs ys))) a
        ∙ ap₂ (λ K L. y ∷ merged_lists K L) (sym mine) (sym (past_itself y ys)))
    go Greater a h =
        let e : z ≡ y = cc in
        let less : colex y x ≡ Less = exchanged colex colex_lawful x y Greater a in
        let other = past_other y x xs Greater a refl in
        rw e (merged_first y (x ∷ xs) ys (less, before_less y x xs less o.0)
        ∙ ap₂ (λ K L. y ∷ merged_lists K L) (sym other) (sym (past_itself y ys)))

pub past_ordered : (q : List ℕ) (xs : List (List ℕ)) → Ordered xs → Ordered (past_base q xs)
past_ordered q [] o = o
past_ordered q (x ∷ xs) o = go (is_eq (colex x q))
  where
    go : (b : Bool) → Ordered (cond b xs (x ∷ xs))
    go true = o.1
    go false = o

-- records without a vertex
lacking_before : (v : ℕ) (k : List ℕ) (L : Model) → before colex k L ≡ true → before colex k (lacking v L) ≡ true
lacking_before v k [] b = refl
lacking_before v k (r ∷ rs) b = go (lacking_before v k rs (and_parts _ _ b).1) (has v r.key)
  where
    go : before colex k (lacking v rs) ≡ true → (x : Bool) → before colex k (cond x (lacking v rs) (r ∷ lacking v rs)) ≡ true
    go more true = more
    go more false = and_from _ _ (and_parts _ _ b).0 more

lacking_sorted : (v : ℕ) (L : Model) → Sorted L → Sorted (lacking v L)
lacking_sorted v [] s = refl
lacking_sorted v (r ∷ rs) s = go (lacking_sorted v rs (and_parts _ _ s).1) (has v r.key)
  where
    go : Sorted (lacking v rs) → (x : Bool) → Sorted (cond x (lacking v rs) (r ∷ lacking v rs))
    go more true = more
    go more false = and_from _ _ (lacking_before v r.key rs (and_parts _ _ s).0) more

listed_lacking : (v : ℕ) (r : Record (List ℕ) ℕ) (L : Model) → Listed r (lacking v L) → Listed r L × (has v r.key ≡ false)
listed_lacking v r [] l = absurd l
listed_lacking v r (x ∷ xs) l = go (listed_lacking v r xs) (has v x.key) refl l
  where
    go : (Listed r (lacking v xs) → Listed r xs × (has v r.key ≡ false)) → (b : Bool) → has v x.key ≡ b → Listed r (cond b (lacking v xs) (x ∷ lacking v xs)) → Listed r (x ∷ xs) × (has v r.key ≡ false)
    go more true e l = let i = more l in (inr i.0, i.1)
    go more false e (inl f) = (inl f, ap (λ y. has v y.key) f ∙ e)
    go more false e (inr l) = let i = more l in (inr i.0, i.1)

lacking_listed : (v : ℕ) (r : Record (List ℕ) ℕ) (L : Model) → has v r.key ≡ false → Listed r L → Listed r (lacking v L)
lacking_listed v r [] h l = l
lacking_listed v r (x ∷ xs) h l = go (lacking_listed v r xs h) (has v x.key) refl l
  where
    go : (Listed r xs → Listed r (lacking v xs)) → (b : Bool) → has v x.key ≡ b → Listed r (x ∷ xs) → Listed r (cond b (lacking v xs) (x ∷ lacking v xs))
    go more true e (inl f) = absurd (true≢false (sym e ∙ sym (ap (λ y. has v y.key) f) ∙ h))
    go more true e (inr l) = more l
    go more false e (inl f) = inl f
    go more false e (inr l) = inr (more l)

lacking_all : (v : ℕ) (L : Model) → ((r : Record (List ℕ) ℕ) → Listed r L → has v r.key ≡ false) → lacking v L ≡ L
lacking_all v [] f = refl
lacking_all v (r ∷ rs) f = ap (λ b. cond b (lacking v rs) (r ∷ lacking v rs)) (f r (inl refl)) ∙ ap (λ L. r ∷ L) (lacking_all v rs (λ x l. f x (inr l)))

-- a base stands for a record
pub member_listed : (u : ℕ) (q : List ℕ) (L : Model) → Member q (bases u L) → (r : Record (List ℕ) ℕ) × Listed r L × (has u r.key ≡ true) × (q ≡ less u r.key)
member_listed u q [] m = absurd m
member_listed u q (x ∷ xs) m = go (member_listed u q xs) (has u x.key) refl m
  where
    Source : Model → Type 0
    Source L = (r : Record (List ℕ) ℕ) × Listed r L × (has u r.key ≡ true) × (q ≡ less u r.key)

    further : Source xs → Source (x ∷ xs)
    further (r, l, h, e) = (r, inr l, h, e)

    go : (Member q (bases u xs) → Source xs) → (b : Bool) → has u x.key ≡ b → Member q (cond b (less u x.key ∷ bases u xs) (bases u xs)) → Source (x ∷ xs)
    go more true e (inl f) = (x, inl refl, e, f)
    go more true e (inr m) = further (more m)
    go more false e m = further (more m)

bases_ordered : (u : ℕ) (L : Model) → Sorted L → ((r : Record (List ℕ) ℕ) → Listed r L → Rising r.key) → Ordered (bases u L)
bases_ordered u [] s k = tt
bases_ordered u (x ∷ xs) s k = go (bases_ordered u xs (and_parts _ _ s).1 (λ r l. k r (inr l))) (has u x.key) refl
  where
    first : has u x.key ≡ true → (q : List ℕ) → Member q (bases u xs) → colex (less u x.key) q ≡ Less
    first h q m =
        let (r, l, i, e) = member_listed u q xs m in
        ap (colex (less u x.key)) e ∙ less_keeps_order u x.key r.key (k x (inl refl)) (k r (inr l)) h i ∙ before_listed x.key r xs (and_parts _ _ s).0 l

    go : Ordered (bases u xs) → (b : Bool) → has u x.key ≡ b → Ordered (cond b (less u x.key ∷ bases u xs) (bases u xs))
    go more true e = (before_from (less u x.key) (bases u xs) (first e), more)
    go more false e = more

-- the bases of the simplexes without v, by what is held
module _ (L : Model) (sorted : Sorted L) (positive : Positive L) (shaped : Shaped L) where
  listed_held : (r : Record (List ℕ) ℕ) → Listed r L → 0 < mask L r.key
  listed_held r l = go (mask L r.key) refl
    where
      go : (m : ℕ) → mask L r.key ≡ m → 0 < m
      go zero e = absurd (positive r.key (listed_lookup r L sorted l ∙ ap Some (sym (listed_mask r L sorted l) ∙ e)))
      go (suc m) e = omega arith

  listed_rising : (r : Record (List ℕ) ℕ) → Listed r L → Rising r.key
  listed_rising r l = (shaped r.key (listed_held r l)).0

  pub without_ordered : (u v : ℕ) → Ordered (bases_without u v L)
  without_ordered u v = bases_ordered u (lacking v L) (lacking_sorted v L sorted) (λ r l. listed_rising r (listed_lacking v r L l).0)

  member_held : (u v : ℕ) (q : List ℕ) → Member q (bases_without u v L) → Base u v q × (0 < mask L (plus u q))
  member_held u v q m =
      let (r, l, h, e) = member_listed u q (lacking v L) m in
      let (k, n) = listed_lacking v r L l in
      let rise = listed_rising r k in
      let a = has_less u u r.key rise in
      let b = has_less v u r.key rise in
      let base : Base u v (less u r.key) = record { rising = less_rising u r.key rise; no_u = grind arith; no_v = grind arith } in
      let held : 0 < mask L (plus u (less u r.key)) = rw (plus_less u r.key rise h) (listed_held r k) in
      rw e (base, held)

  held_member : (u v : ℕ) (q : List ℕ) → (u ≡ v → ⊥) → Base u v q → 0 < mask L (plus u q) → Member q (bases_without u v L)
  held_member u v q n b h =
      let r : Record (List ℕ) ℕ = record { key = plus u q; value = mask L (plus u q) } in
      let l = lacking_listed v r L (with_u_lacks_v u v n q b) (held_listed (plus u q) L h) in
      let m = listed_base u r (lacking v L) (with_u_has_u u v n q b) l in
      rw (less_plus u q b.rising b.no_u) at m

some_joined : (a b : ℕ) → 0 < bit_or a b → (0 < a) ⊎ (0 < b)
some_joined a b h = let s = or_add_and a b in grind arith

joined_some : (a b : ℕ) → (0 < a) ⊎ (0 < b) → 0 < bit_or a b
joined_some a b h = let s = or_add_and a b in let l = and_le_l a b in let r = and_le_r a b in elim h [ inl x ↦ omega arith | inr y ↦ omega arith ]

-- the bases of the collapsed model
module _ (u v : ℕ) (n : u ≡ v → ⊥) (M : Model) (sound : Sound M) where
  abbrev N : Model
  N = collapse u v M

  ordered : Sorted N
  ordered = (image_rule u v M sound.sorted).sorted

  shaped : Shaped N
  shaped = (collapse_keeps_legal u v M n sound.sorted sound.shaped sound.legal).1

  after : (t : List ℕ) → Rising t → mask N t ≡ merged u v M t
  after = (image_masks u v M n sound.sorted sound.shaped sound.legal).rising

  joint : (s : List ℕ) → Base u v s → mask N (plus u s) ≡ bit_or (mask M (plus u s)) (mask M (plus v s))
  joint s b = after (plus u s) (plus_rising u s b.rising) ∙ rw (with_u_lacks_v u v n s b, with_u_has_u u v n s b, less_plus u s b.rising b.no_u)

  lacks_v : (r : Record (List ℕ) ℕ) → Listed r N → has v r.key ≡ false
  lacks_v r l = go (cases_Bool (has v r.key))
    where
      go : (has v r.key ≡ true) ⊎ (has v r.key ≡ false) → has v r.key ≡ false
      go (inl x) =
          let h = listed_held N ordered (collapse_positive u v M) shaped r l in
          let z : mask N r.key ≡ 0 = after r.key (shaped r.key h).0 ∙ rw x in
          absurd (omega arith)
      go (inr x) = x

  pub bases_merged : bases u (collapse u v M) ≡ merged_lists (bases_without u v M) (bases_without v u M)
  bases_merged =
      ap (bases u) (sym (lacking_all v N lacks_v))
      ∙ same_members (bases_without u v N) (merged_lists (bases_without u v M) (bases_without v u M)) (without_ordered N ordered (collapse_positive u v M) shaped u v)
      (merged_ordered (bases_without u v M) (bases_without v u M) (without_ordered M sound.sorted sound.positive sound.shaped v u)) into back
    where
      turned : (a b : ℕ) (q : List ℕ) → Base a b q → Base b a q
      turned a b q base = record { rising = base.rising; no_u = base.no_v; no_v = base.no_u }

      was_held : (a b : ℕ) (q : List ℕ) → (a ≡ b → ⊥) → Base a b q → 0 < mask M (plus a q) → Member q (bases_without a b M)
      was_held a b q d = held_member M sound.sorted sound.positive sound.shaped a b q d

      into : (q : List ℕ) → Member q (bases_without u v N) → Member q (merged_lists (bases_without u v M) (bases_without v u M))
      into q m =
          let (base, h) = member_held N ordered (collapse_positive u v M) shaped u v q m in
          merged_member q (bases_without u v M) (bases_without v u M)
          (elim (some_joined (mask M (plus u q)) (mask M (plus v q)) (rw (joint q base) at h)) [ inl x ↦ inl (was_held u v q n base x) | inr y ↦ inr (was_held v u q (λ e. n (sym e)) (turned u v q base) y) ])

      held_on : (q : List ℕ) → Base u v q → (0 < mask M (plus u q)) ⊎ (0 < mask M (plus v q)) → Member q (bases_without u v N)
      held_on q base h =
          held_member N ordered (collapse_positive u v M) shaped u v q n base (rw (joint q base) (joined_some (mask M (plus u q)) (mask M (plus v q)) h))

      was : (a b : ℕ) (q : List ℕ) → Member q (bases_without a b M) → Base a b q × (0 < mask M (plus a q))
      was a b q m = member_held M sound.sorted sound.positive sound.shaped a b q m

      back : (q : List ℕ) → Member q (merged_lists (bases_without u v M) (bases_without v u M)) → Member q (bases_without u v N)
      back q m = go (member_merged q (bases_without u v M) (bases_without v u M) m)
        where
          go : Member q (bases_without u v M) ⊎ Member q (bases_without v u M) → Member q (bases_without u v N)
          go (inl k) = let (base, h) = was u v q k in held_on q base (inl h)
          go (inr k) = let (base, h) = was v u q k in held_on q (turned v u q base) (inr h)

  -- what the record keeps, by the two walks
  pub pairs_merged : pairs_of u v M ≡ former u v M (merged_lists (bases_without u v M) (bases_without v u M))
  pairs_merged = ap (former u v M) bases_merged
