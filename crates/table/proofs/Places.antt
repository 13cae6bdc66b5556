-- What a look-up, a change and the later records come to at a key's place.
use Rattle.std.proofs.Common.{◌≡◌, ℕ, zero, suc, ◌<◌, ◌≤◌, true, false, List, [], ◌∷◌, ◌++◌, length, get_or, take, drop, is_some, Some, None, Option, Ok, Err, Result, Ordering, Less, Equal, Greater, sym, refl, ap, ◌∙◌, ⊎_elim, arith}
use Rattle.std.specs.List.Sorted.{IsNonDecreasingBy, IsBinarySearchResult, IsSearchInRange}
use Rattle.std.specs.Ordering.{is_lt, ordering_index}
use Rattle.std.proofs.lemmas.List.{get_or_default}
use Rattle.std.proofs.lemmas.Bool.{and_parts, cases_eq, cases_lt}
use Rattle.order.specs.declared.record.Record.{Record}
use Rattle.std.specs.Cmp.{IsTotalOrder}
use Rattle.order.specs.Assoc.{by, before, rising, lookup, bind, put, later}
use Rattle.order.proofs.Ranks.{is_less, alike_right}
use Rattle.table.specs.Places.{below, Sought}

-- the record at n is not
abbrev pub Right : {K V : Type 0} → (K → K → Ordering) → K → List (Record K V) → ℕ → Type 0
Right {K} {V} c k rows n = (d : Record K V) → n < length rows → is_lt (c (get_or rows n d).key k) ≡ false

by_not_less : {X : Type 0} (a : Ordering) (x y : X) → is_lt a ≡ false → by a x y y ≡ y
by_not_less Less x y h = cc
by_not_less Equal x y h = refl
by_not_less Greater x y h = refl

by_not_equal : {X : Type 0} (a : Ordering) (x y : X) → (a ≡ Equal → ⊥) → by a x y x ≡ x
by_not_equal Less x y h = refl
by_not_equal Equal x y h = absurd (h refl)
by_not_equal Greater x y h = refl

module _ {K V : Type 0} (c : K → K → Ordering) where
  before_at : (k : K) (rows : List (Record K V)) (j : ℕ) (d : Record K V) → before c k rows ≡ true → j < length rows → c k (get_or rows j d).key ≡ Less
  before_at k [] j d b h = absurd (omega arith)
  before_at k (r ∷ rs) zero d b h = is_less (c k r.key) (and_parts _ _ b).0
  before_at k (r ∷ rs) (suc j) d b h = before_at k rs j d (and_parts _ _ b).1 (omega arith)

  rising_at : (rows : List (Record K V)) (i j : ℕ) (d : Record K V) → rising c rows ≡ true → i < j → j < length rows → c (get_or rows i d).key (get_or rows j d).key ≡ Less
  rising_at [] i j d u l h = absurd (omega arith)
  rising_at (r ∷ rs) i zero d u l h = absurd (omega arith)
  rising_at (r ∷ rs) zero (suc j) d u l h = before_at r.key rs j d (and_parts _ _ u).0 (omega arith)
  rising_at (r ∷ rs) (suc i) (suc j) d u l h = rising_at rs i j d (and_parts _ _ u).1 (omega arith) (omega arith)

  below_is : (k : K) (rows : List (Record K V)) (n : ℕ) → n ≤ length rows → ((i : ℕ) (d : Record K V) → i < n → c (get_or rows i d).key k ≡ Less) → Right c k rows n → n ≡ below c k rows
  below_is k [] n le all not = omega arith
  below_is k (r ∷ rs) zero le all not = sym (by_not_less (c r.key k) (suc (below c k rs)) zero (not r (omega arith)))
  below_is k (r ∷ rs) (suc n) le all not =
      ap suc (below_is k rs n (omega arith) (λ i d h. all (suc i) d (omega arith)) (λ d h. not d (omega arith)))
      ∙ sym (ap (λ a. by a (suc (below c k rs)) zero zero) (all zero r (omega arith)))

  module _ (ok : IsTotalOrder c) where
    -- a record with the key stands at the key's place
    pub equal_is_below : (k : K) (rows : List (Record K V)) (n : ℕ) (d : Record K V) → n < length rows → rising c rows ≡ true → c (get_or rows n d).key k ≡ Equal → n ≡ below c k rows
    equal_is_below k rows n d h u e = below_is k rows n (omega arith) lesser (λ x l. ap is_lt (ap (λ r. c r.key k) (get_or_default rows n x d h) ∙ e))
      where
        lesser : (i : ℕ) (x : Record K V) → i < n → c (get_or rows i x).key k ≡ Less
        lesser i x l = sym (alike_right c ok _ k _ (ap (λ r. c r.key k) (get_or_default rows n x d h) ∙ e)) ∙ rising_at rows i n x u l h

module _ {K V : Type 0} (c : K → K → Ordering) (k : K) where
  found_at : (rows : List (Record K V)) (d : Record K V) → below c k rows < length rows → is_some (lookup c k rows) ≡ by (c (get_or rows (below c k rows) d).key k) false true false
  found_at [] d h = absurd (omega arith)
  found_at (r ∷ rs) d h = go (found_at rs d) (c r.key k) refl h
    where
      go : (below c k rs < length rs → is_some (lookup c k rs) ≡ by (c (get_or rs (below c k rs) d).key k) false true false) → (a : Ordering) → c r.key k ≡ a →
          by a (suc (below c k rs)) zero zero < suc (length rs) →
          is_some (by a (lookup c k rs) (Some r.value) None) ≡ by (c (get_or (r ∷ rs) (by a (suc (below c k rs)) zero zero) d).key k) false true false
      go more Less e l = more (omega arith)
      go more Equal e l = sym (ap (λ a. by a false true false) e)
      go more Greater e l = sym (ap (λ a. by a false true false) e)

  missing_past : (rows : List (Record K V)) → length rows ≤ below c k rows → is_some (lookup c k rows) ≡ false
  missing_past [] h = refl
  missing_past (r ∷ rs) h = go (missing_past rs) (c r.key k) h
    where
      go : (length rs ≤ below c k rs → is_some (lookup c k rs) ≡ false) → (a : Ordering) → suc (length rs) ≤ by a (suc (below c k rs)) zero zero → is_some (by a (lookup c k rs) (Some r.value) None) ≡ false
      go more Less l = more (omega arith)
      go more Equal l = absurd (omega arith)
      go more Greater l = refl

  module _ (rows : List (Record K V)) (n : ℕ) (is : n ≡ below c k rows) where
    pub found_equal : (d : Record K V) → n < length rows → c (get_or rows n d).key k ≡ Equal → is_some (lookup c k rows) ≡ true
    found_equal d h e = found_at rows d (omega arith) ∙ ap (λ m. by (c (get_or rows m d).key k) false true false) (sym is) ∙ ap (λ a. by a false true false) e

    pub missing_other : (d : Record K V) → n < length rows → (c (get_or rows n d).key k ≡ Equal → ⊥) → is_some (lookup c k rows) ≡ false
    missing_other d h ne = found_at rows d (omega arith) ∙ ap (λ m. by (c (get_or rows m d).key k) false true false) (sym is) ∙ by_not_equal (c (get_or rows n d).key k) false true ne

    pub missing_end : length rows ≤ n → is_some (lookup c k rows) ≡ false
    missing_end h = missing_past rows (omega arith)

    -- nothing is there where the record at the place is greater, or there is none
    pub missing : Record K V → n ≤ length rows → ((d : Record K V) → n < length rows → c (get_or rows n d).key k ≡ Greater) → is_some (lookup c k rows) ≡ false
    missing d le greater =
        ⊎_elim
        (λ l. missing_other d l (λ e. let z : ◌≡◌ {A = Ordering} Equal Greater = sym e ∙ greater d l in cc))
        (λ l. missing_end (omega arith))
        (cases_lt n (length rows))

  pub lookup_found : (rows : List (Record K V)) (d : Record K V) → is_some (lookup c k rows) ≡ true → lookup c k rows ≡ Some (get_or rows (below c k rows) d).value
  lookup_found [] d h = cc
  lookup_found (r ∷ rs) d h = go (lookup_found rs d) (c r.key k) h
    where
      go : (is_some (lookup c k rs) ≡ true → lookup c k rs ≡ Some (get_or rs (below c k rs) d).value) → (a : Ordering) → is_some (by a (lookup c k rs) (Some r.value) None) ≡ true →
          by a (lookup c k rs) (Some r.value) None ≡ Some (get_or (r ∷ rs) (by a (suc (below c k rs)) zero zero) d).value
      go more Less h = more h
      go more Equal h = refl
      go more Greater h = cc

  pub put_found : (o : Option V) (rows : List (Record K V)) → is_some (lookup c k rows) ≡ true → put c k o rows ≡ take (below c k rows) rows ++ bind k o (drop (suc (below c k rows)) rows)
  put_found o [] h = cc
  put_found o (r ∷ rs) h = go (put_found o rs) (c r.key k) h
    where
      go : (is_some (lookup c k rs) ≡ true → put c k o rs ≡ take (below c k rs) rs ++ bind k o (drop (suc (below c k rs)) rs)) → (a : Ordering) → is_some (by a (lookup c k rs) (Some r.value) None) ≡ true →
          by a (r ∷ put c k o rs) (bind k o rs) (bind k o (r ∷ rs)) ≡ take (by a (suc (below c k rs)) zero zero) (r ∷ rs) ++ bind k o (drop (suc (by a (suc (below c k rs)) zero zero)) (r ∷ rs))
      go more Less h = ap (λ t. r ∷ t) (more h)
      go more Equal h = refl
      go more Greater h = cc

  pub put_missing : (o : Option V) (rows : List (Record K V)) → is_some (lookup c k rows) ≡ false → put c k o rows ≡ take (below c k rows) rows ++ bind k o (drop (below c k rows) rows)
  put_missing o [] h = refl
  put_missing o (r ∷ rs) h = go (put_missing o rs) (c r.key k) h
    where
      go : (is_some (lookup c k rs) ≡ false → put c k o rs ≡ take (below c k rs) rs ++ bind k o (drop (below c k rs) rs)) → (a : Ordering) → is_some (by a (lookup c k rs) (Some r.value) None) ≡ false →
          by a (r ∷ put c k o rs) (bind k o rs) (bind k o (r ∷ rs)) ≡ take (by a (suc (below c k rs)) zero zero) (r ∷ rs) ++ bind k o (drop (by a (suc (below c k rs)) zero zero) (r ∷ rs))
      go more Less h = ap (λ t. r ∷ t) (more h)
      go more Equal h = cc
      go more Greater h = refl

  pub later_found : (rows : List (Record K V)) → is_some (lookup c k rows) ≡ true → later c k rows ≡ drop (suc (below c k rows)) rows
  later_found [] h = cc
  later_found (r ∷ rs) h = go (later_found rs) (c r.key k) h
    where
      go : (is_some (lookup c k rs) ≡ true → later c k rs ≡ drop (suc (below c k rs)) rs) → (a : Ordering) → is_some (by a (lookup c k rs) (Some r.value) None) ≡ true →
          by a (later c k rs) rs (r ∷ rs) ≡ drop (suc (by a (suc (below c k rs)) zero zero)) (r ∷ rs)
      go more Less h = more h
      go more Equal h = refl
      go more Greater h = cc

  pub later_missing : (rows : List (Record K V)) → is_some (lookup c k rows) ≡ false → later c k rows ≡ drop (below c k rows) rows
  later_missing [] h = refl
  later_missing (r ∷ rs) h = go (later_missing rs) (c r.key k) h
    where
      go : (is_some (lookup c k rs) ≡ false → later c k rs ≡ drop (below c k rs) rs) → (a : Ordering) → is_some (by a (lookup c k rs) (Some r.value) None) ≡ false →
          by a (later c k rs) rs (r ∷ rs) ≡ drop (by a (suc (below c k rs)) zero zero) (r ∷ rs)
      go more Less h = more h
      go more Equal h = cc
      go more Greater h = refl

index_small : (o : Ordering) → ordering_index o ≤ 2
index_small Less = omega arith
index_small Equal = omega arith
index_small Greater = omega arith

module _ {K V : Type 0} (c : K → K → Ordering) (ok : IsTotalOrder c) (k : K) where
  -- how the keys stand to k rises
  nondecreasing : (rows : List (Record K V)) → rising c rows ≡ true → IsNonDecreasingBy (λ r. ordering_index (c r.key k)) rows
  nondecreasing rows u i j d le h = ⊎_elim (λ e. omega (arith, ap (λ m. ordering_index (c (get_or rows m d).key k)) e)) (λ ne. go (c (get_or rows j d).key k) refl (rising_at c rows i j d u (omega arith) h)) (cases_eq i j)
    where
      go : (a : Ordering) → c (get_or rows j d).key k ≡ a → c (get_or rows i d).key (get_or rows j d).key ≡ Less → ordering_index (c (get_or rows i d).key k) ≤ ordering_index (c (get_or rows j d).key k)
      go Less e l = omega (arith, ap ordering_index (ok.trans _ _ k l e))
      go Equal e l = omega (arith, ap ordering_index (sym (alike_right c ok _ k _ e) ∙ l))
      go Greater e l = omega (arith, ap ordering_index e, index_small (c (get_or rows i d).key k))

  pub sought : (rows : List (Record K V)) (r : Result ℕ ℕ) → IsSearchInRange r (length rows) → IsBinarySearchResult (λ x. c x.key k) rows r → Sought c k rows r
  sought [] (Ok at) b s = absurd (omega arith)
  sought (d ∷ rs) (Ok at) b s = (b, λ up. let e = equal_is_below c ok k (d ∷ rs) at d b up (s d) in (e, found_equal c k (d ∷ rs) at e d b (s d)))
  sought [] (Err at) b s = (b, λ up. (omega arith, refl))
  sought (d ∷ rs) (Err at) b s = (
    b,
    λ up.
        let rows : List (Record K V) = d ∷ rs in
        let p = s (nondecreasing rows up) in
        let e : at ≡ below c k rows = below_is c k rows at b (λ i x l. p.0 i x (omega arith) l) (λ x l. ap is_lt (p.1 at x (omega arith) l)) in
        (e, missing c k rows at e d b (λ x l. p.1 at x (omega arith) l)),
  )
