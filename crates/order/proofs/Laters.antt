-- Going through rising records from one key to the next.
use Rattle.std.proofs.Common.{◌≡◌, ◌≤◌, true, List, [], ◌∷◌, length, Some, None, Ordering, Less, Equal, Greater, sym, refl, ap, ◌∙◌, arith}
use Rattle.std.proofs.lemmas.Bool.{and_parts}
use Rattle.order.specs.declared.record.Record.{Record}
use Rattle.std.specs.Cmp.{IsTotalOrder}
use Rattle.order.specs.Assoc.{by, before, rising, lookup, later}
use Rattle.order.proofs.Ranks.{is_less, self_same}

pub later_shorter : {K V : Type 0} (c : K → K → Ordering) (q : K) (rows : List (Record K V)) → length (later c q rows) ≤ length rows
later_shorter c q [] = omega arith
later_shorter c q (r ∷ rs) = go (later_shorter c q rs) (c r.key q)
  where
    go : length (later c q rs) ≤ length rs → (a : Ordering) → length (by a (later c q rs) rs (r ∷ rs)) ≤ length (r ∷ rs)
    go more Less = omega arith
    go more Equal = omega arith
    go more Greater = omega arith

module _ {K V : Type 0} (c : K → K → Ordering) (ok : IsTotalOrder c) where
  before_later : (k q : K) (rows : List (Record K V)) → before c k rows ≡ true → before c k (later c q rows) ≡ true
  before_later k q [] b = refl
  before_later k q (r ∷ rs) b = go (before_later k q rs (and_parts _ _ b).1) (c r.key q)
    where
      go : before c k (later c q rs) ≡ true → (a : Ordering) → before c k (by a (later c q rs) rs (r ∷ rs)) ≡ true
      go more Less = more
      go more Equal = (and_parts _ _ b).1
      go more Greater = b

  -- the first of what comes after a record has a greater key
  less_first : (k : K) (r : Record K V) (rows rs : List (Record K V)) → before c k rows ≡ true → rows ≡ r ∷ rs → c k r.key ≡ Less
  less_first k r rows rs b h = is_less _ (and_parts _ _ (sym (ap (before c k) h) ∙ b)).0

  pub later_step : (rows : List (Record K V)) (q : K) (r : Record K V) (rs : List (Record K V)) → rising c rows ≡ true → later c q rows ≡ r ∷ rs → later c r.key rows ≡ rs
  later_step [] q r rs u h = cc
  later_step (s ∷ ss) q r rs u h = go (later_step ss q r rs (and_parts _ _ u).1) (c s.key q) refl
    where
      go : (later c q ss ≡ r ∷ rs → later c r.key ss ≡ rs) → (a : Ordering) → c s.key q ≡ a → later c r.key (s ∷ ss) ≡ rs
      go more Less e =
          let f : later c q ss ≡ r ∷ rs = sym (ap (λ a. by a (later c q ss) ss (s ∷ ss)) e) ∙ h in
          let g = less_first s.key r (later c q ss) rs (before_later s.key q ss (and_parts _ _ u).0) f in
          ap (λ a. by a (later c r.key ss) ss (s ∷ ss)) g ∙ more f
      go more Equal e =
          let f : ss ≡ r ∷ rs = sym (ap (λ a. by a (later c q ss) ss (s ∷ ss)) e) ∙ h in
          let g = less_first s.key r ss rs (and_parts _ _ u).0 f in
          ap (λ a. by a (later c r.key ss) ss (s ∷ ss)) g ∙ ap (later c r.key) f ∙ ap (λ a. by a (later c r.key rs) rs (r ∷ rs)) (self_same c ok r.key)
      go more Greater e =
          let f : s ∷ ss ≡ r ∷ rs = sym (ap (λ a. by a (later c q ss) ss (s ∷ ss)) e) ∙ h in
          ap (later c r.key) f ∙ ap (λ a. by a (later c r.key rs) rs (r ∷ rs)) (self_same c ok r.key)

  pub later_found : (rows : List (Record K V)) (q : K) (r : Record K V) (rs : List (Record K V)) → rising c rows ≡ true → later c q rows ≡ r ∷ rs → lookup c r.key rows ≡ Some r.value
  later_found [] q r rs u h = cc
  later_found (s ∷ ss) q r rs u h = go (later_found ss q r rs (and_parts _ _ u).1) (c s.key q) refl
    where
      found : (rows : List (Record K V)) → rows ≡ r ∷ rs → lookup c r.key rows ≡ Some r.value
      found rows f = ap (lookup c r.key) f ∙ ap (λ a. by a (lookup c r.key rs) (Some r.value) None) (self_same c ok r.key)

      go : (later c q ss ≡ r ∷ rs → lookup c r.key ss ≡ Some r.value) → (a : Ordering) → c s.key q ≡ a → lookup c r.key (s ∷ ss) ≡ Some r.value
      go more Less e =
          let f : later c q ss ≡ r ∷ rs = sym (ap (λ a. by a (later c q ss) ss (s ∷ ss)) e) ∙ h in
          let g = less_first s.key r (later c q ss) rs (before_later s.key q ss (and_parts _ _ u).0) f in
          ap (λ a. by a (lookup c r.key ss) (Some s.value) None) g ∙ more f
      go more Equal e =
          let f : ss ≡ r ∷ rs = sym (ap (λ a. by a (later c q ss) ss (s ∷ ss)) e) ∙ h in
          let g = less_first s.key r ss rs (and_parts _ _ u).0 f in
          ap (λ a. by a (lookup c r.key ss) (Some s.value) None) g ∙ found ss f
      go more Greater e = found (s ∷ ss) (sym (ap (λ a. by a (later c q ss) ss (s ∷ ss)) e) ∙ h)
