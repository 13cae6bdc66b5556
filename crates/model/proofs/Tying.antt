-- The search finds the smallest part for which the link condition fails and the first simplex that shows it.
use Rattle.std.proofs.Common.{◌≡◌, ℕ, zero, suc, ◌+◌, ◌<◌, ◌≤◌, Bool, true, false, cond, not, ◌&&◌, ◌⊎◌, List, [], ◌∷◌, Some, None, Option, Ordering, Less, Equal, Greater, sym, refl, ap, ◌∙◌, inl, inr, arith}
use Rattle.std.specs.Ordering.{ordering_then, ordering_reverse}
use Rattle.std.proofs.lemmas.Bool.{and_parts, and_from, cases_Bool, cases_eq, not_from_false, not-true, true≢false}
use Rattle.std.proofs.lemmas.Bool.Decides.{nat_tests}
use Rattle.order.specs.Assoc.{before}
use Rattle.order.specs.declared.record.Record.{Record}
use Rattle.order.proofs.Ranks.{is_less, self_same, exchanged}
use Rattle.complex.specs.Mask.{bit}
use Rattle.complex.specs.Model.{Model, mask, Sorted, In}
use Rattle.complex.specs.Simplex.{colex, has, plus, less, Rising}
use Rattle.complex.proofs.Masks.{bit_holds}
use Rattle.complex.proofs.Order.{colex_lawful}
use Rattle.collapse.specs.Laws.{Positive, Shaped}
use Rattle.collapse.specs.Link.{Link, Fails, Tied}
use Rattle.collapse.specs.Split.{bases}
use Rattle.collapse.proofs.Images.{Listed, listed_lookup, listed_mask, held_listed}
use Rattle.collapse.proofs.Vertices.{has_plus, has_less, less_plus, plus_less, less_rising}
use Rattle.model.specs.Ties.{shows, first_of, tie_in, or_later, tie_from, SearchFinds}

-- the empty list comes before every list with a vertex
empty_before_plus : (u : ℕ) (t : List ℕ) → colex [] (plus u t) ≡ Less
empty_before_plus u [] = refl
empty_before_plus u (c ∷ t) = grind (arith, nat_tests)

-- a list above u beside one to which u is added
above_beside_plus : (u a : ℕ) (s t : List ℕ) → u < a → Rising (a ∷ s) → has u t ≡ false → ordering_then (colex (a ∷ s) (plus u t)) Greater ≡ ordering_then (colex s t) Greater
above_beside_plus u a s [] l r h = grind (arith, nat_tests)
above_beside_plus u a [] (c ∷ t) l r h = let i = empty_before_plus u t in grind (arith, nat_tests)
above_beside_plus u a (d ∷ s) (c ∷ t) l r h =
    let i : has u t ≡ false → ordering_then (colex (d ∷ s) (plus u t)) Greater ≡ ordering_then (colex s t) Greater = above_beside_plus u d s t (omega (arith, r.0.0)) r.1 in
    let k : a < d = r.0.0 in
    grind (arith, nat_tests)

plus_beside_above : (u b : ℕ) (s t : List ℕ) → u < b → Rising (b ∷ t) → has u s ≡ false → ordering_then (colex (plus u s) (b ∷ t)) Less ≡ ordering_then (colex s t) Less
plus_beside_above u b s t l r h =
    let i = above_beside_plus u b t s l r h in
    let j = colex_lawful.antisymm (plus u s) (b ∷ t) in
    let k = colex_lawful.antisymm s t in
    turned (colex (plus u s) (b ∷ t)) (colex (b ∷ t) (plus u s)) (colex s t) (colex t s) i j k
  where
    turned : (a b c d : Ordering) → ordering_then b Greater ≡ ordering_then d Greater → a ≡ ordering_reverse b → c ≡ ordering_reverse d → ordering_then a Less ≡ ordering_then c Less
    turned a b c d i j k = grind arith

-- a vertex that is added to two lists keeps their order
plus_keeps_order : (u : ℕ) (s t : List ℕ) → Rising s → Rising t → has u s ≡ false → has u t ≡ false → colex (plus u s) (plus u t) ≡ colex s t
plus_keeps_order u [] [] r q h k = self_same colex colex_lawful (u ∷ [])
plus_keeps_order u [] (b ∷ t) r q h k = let i = empty_before_plus u t in grind (arith, nat_tests)
plus_keeps_order u (a ∷ s) [] r q h k = let i = colex_lawful.antisymm (plus u s) [] ∙ ap ordering_reverse (empty_before_plus u s) in grind (arith, nat_tests)
plus_keeps_order u (a ∷ s) (b ∷ t) r q h k =
    let i : has u s ≡ false → has u t ≡ false → colex (plus u s) (plus u t) ≡ colex s t = plus_keeps_order u s t r.1 q.1 in
    let j : u < a → has u t ≡ false → ordering_then (colex (a ∷ s) (plus u t)) Greater ≡ ordering_then (colex s t) Greater = λ l e. above_beside_plus u a s t l r e in
    let m : u < b → has u s ≡ false → ordering_then (colex (plus u s) (b ∷ t)) Less ≡ ordering_then (colex s t) Less = λ l e. plus_beside_above u b s t l q e in
    grind (arith, nat_tests)

-- a vertex that is taken from two lists keeps their order
less_keeps_order : (u : ℕ) (s t : List ℕ) → Rising s → Rising t → has u s ≡ true → has u t ≡ true → colex (less u s) (less u t) ≡ colex s t
less_keeps_order u s t r q h k =
    let a : has u (less u s) ≡ false = let i = has_less u u s r in grind arith in
    let b : has u (less u t) ≡ false = let i = has_less u u t q in grind arith in
    sym (plus_keeps_order u (less u s) (less u t) (less_rising u s r) (less_rising u t q) a b)
    ∙ ap (λ x. colex x (plus u (less u t))) (plus_less u s r h) ∙ ap (colex s) (plus_less u t q k)

before_listed : (k : List ℕ) (r : Record (List ℕ) ℕ) (xs : Model) → before colex k xs ≡ true → Listed r xs → colex k r.key ≡ Less
before_listed k r [] b l = absurd l
before_listed k r (x ∷ xs) b (inl e) = ap (λ y. colex k y.key) e ∙ is_less _ (and_parts _ _ b).0
before_listed k r (x ∷ xs) b (inr l) = before_listed k r xs (and_parts _ _ b).1 l

-- the first of a model's bases that passes a test
module _ (u : ℕ) (f : List ℕ → Bool) where
  -- a simplex with u whose base passes
  abbrev pub passes : List ℕ → Bool
  passes k = has u k && f (less u k)

  pub first_step : (r : Record (List ℕ) ℕ) (rs : Model) → first_of f (bases u (r ∷ rs)) ≡ cond (passes r.key) (Some (less u r.key)) (first_of f (bases u rs))
  first_step r rs = go (has u r.key)
    where
      go : (b : Bool) → first_of f (cond b (less u r.key ∷ bases u rs) (bases u rs)) ≡ cond (b && f (less u r.key)) (Some (less u r.key)) (first_of f (bases u rs))
      go true = refl
      go false = refl

  first_found : (rows : Model) (s : List ℕ) → first_of f (bases u rows) ≡ Some s → (r : Record (List ℕ) ℕ) × Listed r rows × (passes r.key ≡ true) × (less u r.key ≡ s)
  first_found [] s h = let z : ◌≡◌ {A = ℕ} 0 1 = cc in absurd (omega arith)
  first_found (x ∷ xs) s h = go (first_found xs s) (passes x.key) refl (sym (first_step x xs) ∙ h)
    where
      Found : Model → Type 0
      Found rows = (r : Record (List ℕ) ℕ) × Listed r rows × (passes r.key ≡ true) × (less u r.key ≡ s)

      further : Found xs → Found (x ∷ xs)
      further (r, l, a, b) = (r, inr l, a, b)

      go : (first_of f (bases u xs) ≡ Some s → Found xs) → (b : Bool) → passes x.key ≡ b → cond b (Some (less u x.key)) (first_of f (bases u xs)) ≡ Some s → Found (x ∷ xs)
      go more true e h = (x, inl refl, e, cc)
      go more false e h = further (more h)

  none_found : (rows : Model) → first_of f (bases u rows) ≡ None → (r : Record (List ℕ) ℕ) → Listed r rows → passes r.key ≡ false
  none_found [] h r l = absurd l
  none_found (x ∷ xs) h r l = go (λ t. none_found xs t r) (passes x.key) refl (sym (first_step x xs) ∙ h) l
    where
      go : (first_of f (bases u xs) ≡ None → Listed r xs → passes r.key ≡ false) → (b : Bool) → passes x.key ≡ b →
          cond b (Some (less u x.key)) (first_of f (bases u xs)) ≡ None → Listed r (x ∷ xs) → passes r.key ≡ false
      go more true e h l = cc
      go more false e h (inl i) = ap (λ y. passes y.key) i ∙ e
      go more false e h (inr l) = more h l

  -- no base that passes comes before the first
  none_earlier : (rows : Model) → Sorted rows → ((r : Record (List ℕ) ℕ) → Listed r rows → Rising r.key) → (s : List ℕ) → first_of f (bases u rows) ≡ Some s →
      (r : Record (List ℕ) ℕ) → Listed r rows → passes r.key ≡ true → colex (less u r.key) s ≡ Less → ⊥
  none_earlier [] w rise s h r l p o = l
  none_earlier (x ∷ xs) w rise s h r l p o =
      go (λ t m. none_earlier xs (and_parts _ _ w).1 (λ y n. rise y (inr n)) s t r m p o) (passes x.key) refl (sym (first_step x xs) ∙ h) l
    where
      t : List ℕ
      t = less u r.key

      apart : (o : Ordering) → (o ≡ Less → ⊥) → colex t (less u x.key) ≡ o → less u x.key ≡ s → ⊥
      apart a n e i = n (sym e ∙ ap (colex t) i ∙ o)

      is_first : passes x.key ≡ true → less u x.key ≡ s → Listed r (x ∷ xs) → ⊥
      is_first e i (inl j) =
          apart Equal (λ a. let z : ◌≡◌ {A = ℕ} 0 1 = cc in omega arith) (ap (λ y. colex (less u y.key) (less u x.key)) j ∙ self_same colex colex_lawful (less u x.key)) i
      is_first e i (inr m) =
          let after : colex x.key r.key ≡ Less = before_listed x.key r xs (and_parts _ _ w).0 m in
          let same = less_keeps_order u x.key r.key (rise x (inl refl)) (rise r (inr m)) (and_parts _ _ e).0 (and_parts _ _ p).0 in
          apart Greater (λ a. let z : ◌≡◌ {A = ℕ} 0 1 = cc in omega arith) (exchanged colex colex_lawful (less u x.key) t Less (same ∙ after)) i

      go : (first_of f (bases u xs) ≡ Some s → Listed r xs → ⊥) → (b : Bool) → passes x.key ≡ b → cond b (Some (less u x.key)) (first_of f (bases u xs)) ≡ Some s → Listed r (x ∷ xs) → ⊥
      go more true e h l = is_first e (cc) l
      go more false e h (inl i) = true≢false (sym p ∙ ap (λ y. passes y.key) i ∙ e)
      go more false e h (inr l) = more h l

-- what was found among the parts, and what was not
module _ (u v : ℕ) (M : Model) where
  smallest_part_found : (k a p : ℕ) (s : List ℕ) → tie_from a k u v M ≡ Some (p, s) → (a ≤ p) × (p < a + k) × (tie_in p u v M ≡ Some s) × ((q : ℕ) → a ≤ q → q < p → tie_in q u v M ≡ None)
  smallest_part_found zero a p s h = let z : ◌≡◌ {A = ℕ} 0 1 = cc in absurd (omega arith)
  smallest_part_found (suc k) a p s h = go (smallest_part_found k (a + 1) p s) (tie_in a u v M) refl h
    where
      Found : ℕ → ℕ → Type 0
      Found a k = (a ≤ p) × (p < a + k) × (tie_in p u v M ≡ Some s) × ((q : ℕ) → a ≤ q → q < p → tie_in q u v M ≡ None)

      first_or_later : tie_in a u v M ≡ None → (q : ℕ) → a ≤ q → (a + 1 ≤ q → tie_in q u v M ≡ None) → (a ≡ q) ⊎ (a ≡ q → ⊥) → tie_in q u v M ≡ None
      first_or_later e q l more (inl i) = ap (λ x. tie_in x u v M) (sym i) ∙ e
      first_or_later e q l more (inr n) = more (omega arith)

      go : (tie_from (a + 1) k u v M ≡ Some (p, s) → Found (a + 1) k) → (o : Option (List ℕ)) → tie_in a u v M ≡ o → or_later a o (tie_from (a + 1) k u v M) ≡ Some (p, s) → Found a (suc k)
      go more None e h =
          let i = more h in
          (omega (arith, i.0), omega (arith, i.1), i.2, λ q l m. first_or_later e q l (λ n. i.3 q n m) (cases_eq a q))
      go more (Some t) e h =
          let pair : ◌≡◌ {A = ℕ × List ℕ} (a, t) (p, s) = cc in
          let same : a ≡ p = ap (λ x. x.0) pair in
          let base : t ≡ s = ap (λ x. x.1) pair in
          (omega arith, omega arith, ap (λ x. tie_in x u v M) (sym same) ∙ e ∙ ap Some base, λ q l m. absurd (omega arith))

  no_part_found : (k a : ℕ) → tie_from a k u v M ≡ None → (q : ℕ) → a ≤ q → q < a + k → tie_in q u v M ≡ None
  no_part_found zero a h q l m = absurd (omega arith)
  no_part_found (suc k) a h q l m = go (λ t. no_part_found k (a + 1) t q) (tie_in a u v M) refl h (cases_eq a q)
    where
      go : (tie_from (a + 1) k u v M ≡ None → a + 1 ≤ q → q < a + 1 + k → tie_in q u v M ≡ None) → (o : Option (List ℕ)) → tie_in a u v M ≡ o →
          or_later a o (tie_from (a + 1) k u v M) ≡ None → (a ≡ q) ⊎ (a ≡ q → ⊥) → tie_in q u v M ≡ None
      go more None e h (inl i) = ap (λ x. tie_in x u v M) (sym i) ∙ e
      go more None e h (inr n) = more h (omega arith) (omega arith)
      go more (Some t) e h i = cc

-- in a model of proper simplexes the test tells where the link condition fails
module _ (u v : ℕ) (M : Model) (sorted : Sorted M) (positive : Positive M) (shaped : Shaped M) where
  keys_rise : (r : Record (List ℕ) ℕ) → Listed r M → Rising r.key
  keys_rise r l = go (mask M r.key) refl
    where
      go : (m : ℕ) → mask M r.key ≡ m → Rising r.key
      go zero e = absurd (positive r.key (listed_lookup r M sorted l ∙ ap Some (sym (listed_mask r M sorted l) ∙ e)))
      go (suc m) e = (shaped r.key (rw e (omega arith))).0

  fails_shows : (p : ℕ) (s : List ℕ) → Fails p u v M s → shows p u v M s ≡ true
  fails_shows p s f =
      and_from _ _ (not_from_false _ f.base.no_v)
      (and_from _ _ f.with_u (and_from _ _ f.with_v (not_from_false _ (without (cases_Bool (bit p (mask M (plus u (plus v s)))))))))
    where
      without : (bit p (mask M (plus u (plus v s))) ≡ true) ⊎ (bit p (mask M (plus u (plus v s))) ≡ false) → bit p (mask M (plus u (plus v s))) ≡ false
      without (inl e) = absurd (f.without e)
      without (inr e) = e

  -- a base that passes shows that the condition fails
  shown_fails : (p : ℕ) (r : Record (List ℕ) ℕ) → Listed r M → passes u (shows p u v M) r.key ≡ true → Fails p u v M (less u r.key)
  shown_fails p r l h =
      let s = less u r.key in
      let rise = keys_rise r l in
      let a = and_parts (has u r.key) (shows p u v M s) h in
      let b = and_parts (not (has v s)) (bit p (mask M (plus u s)) && (bit p (mask M (plus v s)) && not (bit p (mask M (plus u (plus v s)))))) a.1 in
      let c = and_parts (bit p (mask M (plus u s))) (bit p (mask M (plus v s)) && not (bit p (mask M (plus u (plus v s))))) b.1 in
      let d = and_parts (bit p (mask M (plus v s))) (not (bit p (mask M (plus u (plus v s))))) c.1 in
      record {
        base = record { rising = less_rising u r.key rise; no_u = (let i = has_less u u r.key rise in grind arith); no_v = not-true (has v s) b.0 };
        with_u = c.0;
        with_v = d.0;
        without = λ i. true≢false (sym i ∙ not-true _ d.1);
      }

  -- and every s that shows it is a base that passes
  fails_listed : (p : ℕ) (s : List ℕ) → Fails p u v M s → (r : Record (List ℕ) ℕ) × Listed r M × (passes u (shows p u v M) r.key ≡ true) × (less u r.key ≡ s)
  fails_listed p s f =
      let k = plus u s in
      let back : less u k ≡ s = less_plus u s f.base.rising f.base.no_u in
      let there : has u k ≡ true = (let i = has_plus u u s in grind arith) in
      (record { key = k; value = mask M k }, held_listed k M (bit_holds p (mask M k) f.with_u), and_from _ _ there (ap (shows p u v M) back ∙ fails_shows p s f), back)

  none_found_links : (p : ℕ) → tie_in p u v M ≡ None → Link p u v M
  none_found_links p h s b i j = go (cases_Bool (bit p (mask M (plus u (plus v s)))))
    where
      failing : bit p (mask M (plus u (plus v s))) ≡ false → ⊥
      failing e =
          let f = fails_listed p s (record { base = b; with_u = i; with_v = j; without = λ t. true≢false (sym t ∙ e) }) in
          true≢false (sym f.2 ∙ none_found u (shows p u v M) M h f.0 f.1)

      go : (bit p (mask M (plus u (plus v s))) ≡ true) ⊎ (bit p (mask M (plus u (plus v s))) ≡ false) → In p M (plus u (plus v s))
      go (inl e) = e
      go (inr e) = absurd (failing e)

  first_found_ties : (p : ℕ) (s : List ℕ) → tie_in p u v M ≡ Some s → ((q : ℕ) → q < p → tie_in q u v M ≡ None) → Tied p u v M s
  first_found_ties p s h before = record {
    fails = (let r = first_found u (shows p u v M) M s h in rw (← r.3) (shown_fails p r.0 r.1 r.2));
    smallest = λ q l. none_found_links q (before q l);
    first = λ t o f. (let r = fails_listed p t f in none_earlier u (shows p u v M) M sorted keys_rise s h r.0 r.1 r.2 (ap (λ x. colex x s) r.3 ∙ o));
  }

pub search_finds : SearchFinds
search_finds u v M sorted positive shaped = record {
  part = λ p s h. (smallest_part_found u v M 8 0 p s h).1;
  tied = λ p s h. (let f = smallest_part_found u v M 8 0 p s h in first_found_ties u v M sorted positive shaped p s f.2 (λ q l. f.3 q (omega arith) l));
  untied = λ h p l. none_found_links u v M sorted positive shaped p (no_part_found u v M 8 0 h p (omega arith) l);
}
