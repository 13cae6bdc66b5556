-- The records whose keys pass a test: what is later among them, and which changes leave them.
use Rattle.std.proofs.Common.{◌≡◌, Bool, true, false, cond, List, [], ◌∷◌, Some, None, filter, Option, Ordering, Less, Equal, Greater, sym, refl, ap, ◌∙◌}
use Rattle.std.proofs.lemmas.Bool.{and_parts, and_from, cond-false}
use Rattle.order.specs.declared.record.Record.{Record}
use Rattle.std.specs.Cmp.{IsTotalOrder}
use Rattle.order.specs.Assoc.{by, Exact, before, rising, bind, put, later}
use Rattle.order.proofs.Puts.{before_alike, before_all}
use Rattle.order.proofs.Ranks.{is_less, self_same, exchanged}

module _ {K V : Type 0} (c : K → K → Ordering) (ok : IsTotalOrder c) where
  -- all are later than a key that is less than all
  later_all : (q : K) (rows : List (Record K V)) → before c q rows ≡ true → later c q rows ≡ rows
  later_all q [] b = refl
  later_all q (r ∷ rs) b = ap (λ a. by a (later c q rs) rs (r ∷ rs)) (exchanged c ok q r.key Less (is_less _ (and_parts _ _ b).0))

  later_bind : (k : K) (o : Option V) (rows : List (Record K V)) → before c k rows ≡ true → later c k (bind k o rows) ≡ rows
  later_bind k None rows b = later_all k rows b
  later_bind k (Some v) rows b = ap (λ a. by a (later c k rows) rows (record { key = k; value = v } ∷ rows)) (self_same c ok k)

  -- a change at a key leaves what is later
  pub later_put : (k : K) (o : Option V) (rows : List (Record K V)) → rising c rows ≡ true → later c k (put c k o rows) ≡ later c k rows
  later_put k o [] u = later_bind k o [] refl
  later_put k o (r ∷ rs) u = go (later_put k o rs (and_parts _ _ u).1) (c r.key k) refl
    where
      go : later c k (put c k o rs) ≡ later c k rs → (a : Ordering) → c r.key k ≡ a → later c k (by a (r ∷ put c k o rs) (bind k o rs) (bind k o (r ∷ rs))) ≡ by a (later c k rs) rs (r ∷ rs)
      go more Less e = ap (λ a. by a (later c k (put c k o rs)) (put c k o rs) (r ∷ put c k o rs)) e ∙ more
      go more Equal e = later_bind k o rs (before_alike c ok r.key k rs e (and_parts _ _ u).0)
      go more Greater e = later_bind k o (r ∷ rs) (before_all c ok k r rs e u)

  module _ (p : K → Bool) where
    -- the records whose keys pass
    abbrev passing : List (Record K V) → List (Record K V)
    passing rows = filter (λ r. p r.key) rows

    passing_before : (k : K) (rows : List (Record K V)) → before c k rows ≡ true → before c k (passing rows) ≡ true
    passing_before k [] b = refl
    passing_before k (r ∷ rs) b = go (passing_before k rs (and_parts _ _ b).1) (p r.key)
      where
        go : before c k (passing rs) ≡ true → (a : Bool) → before c k (cond a (r ∷ passing rs) (passing rs)) ≡ true
        go more true = and_from _ _ (and_parts _ _ b).0 more
        go more false = more

    pub passing_rising : (rows : List (Record K V)) → rising c rows ≡ true → rising c (passing rows) ≡ true
    passing_rising [] u = refl
    passing_rising (r ∷ rs) u = go (passing_rising rs (and_parts _ _ u).1) (p r.key)
      where
        go : rising c (passing rs) ≡ true → (a : Bool) → rising c (cond a (r ∷ passing rs) (passing rs)) ≡ true
        go more true = and_from _ _ (passing_before r.key rs (and_parts _ _ u).0) more
        go more false = more

    pub passing_later : (q : K) (rows : List (Record K V)) → rising c rows ≡ true → later c q (passing rows) ≡ passing (later c q rows)
    passing_later q [] u = refl
    passing_later q (r ∷ rs) u = go (passing_later q rs (and_parts _ _ u).1) (c r.key q) refl (p r.key) refl
      where
        go : later c q (passing rs) ≡ passing (later c q rs) → (a : Ordering) → c r.key q ≡ a → (b : Bool) → p r.key ≡ b → later c q (cond b (r ∷ passing rs) (passing rs)) ≡ passing (by a (later c q rs) rs (r ∷ rs))
        go more Less e true f = ap (λ a. by a (later c q (passing rs)) (passing rs) (r ∷ passing rs)) e ∙ more
        go more Less e false f = more
        go more Equal e true f = ap (λ a. by a (later c q (passing rs)) (passing rs) (r ∷ passing rs)) e
        go more Equal e false f = later_all q (passing rs) (passing_before q rs (before_alike c ok r.key q rs e (and_parts _ _ u).0))
        go more Greater e true f = ap (λ a. by a (later c q (passing rs)) (passing rs) (r ∷ passing rs)) e ∙ sym (ap (λ b. cond b (r ∷ passing rs) (passing rs)) f)
        go more Greater e false f = later_all q (passing rs) (passing_before q rs (and_parts _ _ (before_all c ok q r rs e u)).1) ∙ sym (ap (λ b. cond b (r ∷ passing rs) (passing rs)) f)

    passing_bind : (k : K) (o : Option V) (rows : List (Record K V)) → p k ≡ false → passing (bind k o rows) ≡ passing rows
    passing_bind k None rows h = refl
    passing_bind k (Some v) rows h = cond-false (p k) _ _ h

    -- a change at a key that does not pass leaves those that pass
    pub passing_put : Exact c → (k : K) (o : Option V) (rows : List (Record K V)) → p k ≡ false → passing (put c k o rows) ≡ passing rows
    passing_put exact k o [] h = passing_bind k o [] h
    passing_put exact k o (r ∷ rs) h = go (passing_put exact k o rs h) (c r.key k) refl
      where
        go : passing (put c k o rs) ≡ passing rs → (a : Ordering) → c r.key k ≡ a → passing (by a (r ∷ put c k o rs) (bind k o rs) (bind k o (r ∷ rs))) ≡ passing (r ∷ rs)
        go more Less e = ap (λ rows. cond (p r.key) (r ∷ rows) rows) more
        go more Equal e = passing_bind k o rs h ∙ sym (cond-false (p r.key) _ _ (ap p (exact r.key k e) ∙ h))
        go more Greater e = passing_bind k o (r ∷ rs) h
