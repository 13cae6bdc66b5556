-- A change at one key leaves rising records rising.
use Rattle.std.proofs.Common.{◌≡◌, true, List, [], ◌∷◌, Some, None, Option, Ordering, Less, Equal, Greater, sym, refl, ap, ◌∙◌}
use Rattle.std.specs.Ordering.{is_lt}
use Rattle.std.proofs.lemmas.Bool.{and_parts, and_from}
use Rattle.order.specs.declared.record.Record.{Record}
use Rattle.std.specs.Cmp.{IsTotalOrder}
use Rattle.order.specs.Assoc.{by, before, rising, bind, put}
use Rattle.order.proofs.Ranks.{is_less, exchanged}

module _ {K V : Type 0} (c : K → K → Ordering) (ok : IsTotalOrder c) where
  pub before_less : (x y : K) (rows : List (Record K V)) → c x y ≡ Less → before c y rows ≡ true → before c x rows ≡ true
  before_less x y [] e b = refl
  before_less x y (r ∷ rs) e b =
      and_from _ _ (ap is_lt (ok.trans x y r.key e (is_less _ (and_parts _ _ b).0))) (before_less x y rs e (and_parts _ _ b).1)

  pub before_alike : (x y : K) (rows : List (Record K V)) → c x y ≡ Equal → before c x rows ≡ true → before c y rows ≡ true
  before_alike x y [] e b = refl
  before_alike x y (r ∷ rs) e b =
      and_from _ _ (ap is_lt (sym (ok.congr x y r.key e)) ∙ (and_parts _ _ b).0) (before_alike x y rs e (and_parts _ _ b).1)

  before_bind : (x k : K) (o : Option V) (rows : List (Record K V)) → c x k ≡ Less → before c x rows ≡ true → before c x (bind k o rows) ≡ true
  before_bind x k None rows e b = b
  before_bind x k (Some v) rows e b = and_from _ _ (ap is_lt e) b

  pub before_put : (x k : K) (o : Option V) (rows : List (Record K V)) → c x k ≡ Less → before c x rows ≡ true → before c x (put c k o rows) ≡ true
  before_put x k o [] e b = before_bind x k o [] e b
  before_put x k o (r ∷ rs) e b = go (before_put x k o rs e (and_parts _ _ b).1) (c r.key k)
    where
      go : before c x (put c k o rs) ≡ true → (a : Ordering) → before c x (by a (r ∷ put c k o rs) (bind k o rs) (bind k o (r ∷ rs))) ≡ true
      go more Less = and_from _ _ (and_parts _ _ b).0 more
      go more Equal = before_bind x k o rs e (and_parts _ _ b).1
      go more Greater = before_bind x k o (r ∷ rs) e b

  rising_bind : (k : K) (o : Option V) (rows : List (Record K V)) → before c k rows ≡ true → rising c rows ≡ true → rising c (bind k o rows) ≡ true
  rising_bind k None rows b u = u
  rising_bind k (Some v) rows b u = and_from _ _ b u

  -- a key that is less than the first record's is less than all
  pub before_all : (k : K) (r : Record K V) (rs : List (Record K V)) → c r.key k ≡ Greater → rising c (r ∷ rs) ≡ true → before c k (r ∷ rs) ≡ true
  before_all k r rs e u =
      let l : c k r.key ≡ Less = exchanged c ok r.key k Greater e in
      and_from _ _ (ap is_lt l) (before_less k r.key rs l (and_parts _ _ u).0)

  pub put_keeps_rising : (k : K) (o : Option V) (rows : List (Record K V)) → rising c rows ≡ true → rising c (put c k o rows) ≡ true
  put_keeps_rising k o [] u = rising_bind k o [] refl refl
  put_keeps_rising k o (r ∷ rs) u = go (put_keeps_rising k o rs (and_parts _ _ u).1) (c r.key k) refl
    where
      go : rising c (put c k o rs) ≡ true → (a : Ordering) → c r.key k ≡ a → rising c (by a (r ∷ put c k o rs) (bind k o rs) (bind k o (r ∷ rs))) ≡ true
      go more Less e = and_from _ _ (before_put r.key k o rs e (and_parts _ _ u).0) more
      go more Equal e = rising_bind k o rs (before_alike r.key k rs e (and_parts _ _ u).0) (and_parts _ _ u).1
      go more Greater e = rising_bind k o (r ∷ rs) (before_all k r rs e u) u
