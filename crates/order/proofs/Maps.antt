-- Rising records as a map: what a change does to look-ups and to sums, and that the look-ups tell the records.
use Rattle.std.proofs.Common.{◌≡◌, ℕ, ◌+◌, true, List, [], ◌∷◌, length, Some, None, Option, Ordering, Less, Equal, Greater, sym, refl, ap, ◌∙◌, arith}
use Rattle.std.specs.Ordering.{ordering_reverse}
use Rattle.std.proofs.lemmas.Bool.{and_parts}
use Rattle.order.specs.declared.record.Record.{Record}
use Rattle.std.specs.Cmp.{IsTotalOrder}
use Rattle.order.specs.Assoc.{by, Exact, before, rising, lookup, bind, put, total, weigh}
use Rattle.order.proofs.Ranks.{is_less, self_same, exchanged, alike_right}
use Rattle.order.proofs.Puts.{before_less, before_alike, before_all}

pub length_is_total : {K V : Type 0} (rows : List (Record K V)) → length rows ≡ total (λ _ _. 1) rows
length_is_total [] = refl
length_is_total (r ∷ rs) = let more = length_is_total rs in omega arith

total_bind : {K V : Type 0} (w : K → V → ℕ) (k : K) (o : Option V) (rows : List (Record K V)) → total w (bind k o rows) ≡ weigh w k o + total w rows
total_bind w k None rows = omega arith
total_bind w k (Some v) rows = refl

module _ {K V : Type 0} (c : K → K → Ordering) (ok : IsTotalOrder c) where
  -- a key that is less than all is not there
  pub lookup_before : (q : K) (rows : List (Record K V)) → before c q rows ≡ true → lookup c q rows ≡ None
  lookup_before q [] b = refl
  lookup_before q (r ∷ rs) b =
      ap (λ a. by a (lookup c q rs) (Some r.value) None) (exchanged c ok q r.key Less (is_less _ (and_parts _ _ b).0))

  lookup_bind : (k q : K) (o : Option V) (rows : List (Record K V)) → before c k rows ≡ true → lookup c q (bind k o rows) ≡ by (c q k) (lookup c q rows) o (lookup c q rows)
  lookup_bind k q None rows b = go (c q k) refl
    where
      go : (a : Ordering) → c q k ≡ a → lookup c q rows ≡ by a (lookup c q rows) None (lookup c q rows)
      go Less e = refl
      go Equal e = lookup_before q rows (before_alike c ok k q rows (exchanged c ok q k Equal e) b)
      go Greater e = refl
  lookup_bind k q (Some v) rows b = ap (λ a. by a (lookup c q rows) (Some v) None) (ok.antisymm k q) ∙ go (c q k) refl
    where
      go : (a : Ordering) → c q k ≡ a → by (ordering_reverse a) (lookup c q rows) (Some v) None ≡ by a (lookup c q rows) (Some v) (lookup c q rows)
      go Less e = sym (lookup_before q rows (before_less c ok q k rows e b))
      go Equal e = refl
      go Greater e = refl

  module _ (exact : Exact c) where
    pub lookup_put : (rows : List (Record K V)) (k q : K) (o : Option V) → rising c rows ≡ true → lookup c q (put c k o rows) ≡ by (c q k) (lookup c q rows) o (lookup c q rows)
    lookup_put [] k q o u = lookup_bind k q o [] refl
    lookup_put (r ∷ rs) k q o u = go (lookup_put rs k q o (and_parts _ _ u).1) (c r.key k) refl
      where
        first : before c r.key rs ≡ true
        first = (and_parts _ _ u).0

        old : Option V
        old = lookup c q (r ∷ rs)

        passed : c r.key k ≡ Less → (a : Ordering) → c q k ≡ a → lookup c q (put c k o rs) ≡ by a (lookup c q rs) o (lookup c q rs) →
            by (c r.key q) (lookup c q (put c k o rs)) (Some r.value) None ≡ by a old o old
        passed e Less f more = ap (λ t. by (c r.key q) t (Some r.value) None) more
        passed e Equal f more = ap (λ a. by a (lookup c q (put c k o rs)) (Some r.value) None) (alike_right c ok q k r.key f ∙ e) ∙ more
        passed e Greater f more = ap (λ t. by (c r.key q) t (Some r.value) None) more

        replaced : c r.key k ≡ Equal → (a : Ordering) → c q k ≡ a → by a (lookup c q rs) o (lookup c q rs) ≡ by a old o old
        replaced e Less f =
            let b = before_less c ok q r.key rs (alike_right c ok r.key k q e ∙ f) first in
            lookup_before q rs b ∙ sym (ap (λ a. by a (lookup c q rs) (Some r.value) None) (ok.congr r.key k q e ∙ exchanged c ok q k Less f))
        replaced e Equal f = refl
        replaced e Greater f = sym (ap (λ a. by a (lookup c q rs) (Some r.value) None) (ok.congr r.key k q e ∙ exchanged c ok q k Greater f))

        go : lookup c q (put c k o rs) ≡ by (c q k) (lookup c q rs) o (lookup c q rs) → (a : Ordering) → c r.key k ≡ a →
            lookup c q (by a (r ∷ put c k o rs) (bind k o rs) (bind k o (r ∷ rs))) ≡ by (c q k) old o old
        go more Less e = passed e (c q k) refl more
        go more Equal e = lookup_bind k q o rs (before_alike c ok r.key k rs e first) ∙ replaced e (c q k) refl
        go more Greater e = lookup_bind k q o (r ∷ rs) (before_all c ok k r rs e u)

    pub same_lookups : (rows sows : List (Record K V)) → rising c rows ≡ true → rising c sows ≡ true → ((q : K) → lookup c q rows ≡ lookup c q sows) → rows ≡ sows
    same_lookups [] [] u v h = refl
    same_lookups [] (s ∷ ss) u v h = let a = h s.key in let b = self_same c ok s.key in grind arith
    same_lookups (r ∷ rs) [] u v h = let a = h r.key in let b = self_same c ok r.key in grind arith
    same_lookups (r ∷ rs) (s ∷ ss) u v h = go (λ p. same_lookups rs ss (and_parts _ _ u).1 (and_parts _ _ v).1 p) (c r.key s.key) refl
      where
        both : (q : K) (a : Ordering) → c r.key q ≡ a → c s.key q ≡ a → lookup c q rs ≡ lookup c q ss
        both q Less e f =
            sym (ap (λ a. by a (lookup c q rs) (Some r.value) None) e) ∙ h q ∙ ap (λ a. by a (lookup c q ss) (Some s.value) None) f
        both q Equal e f =
            lookup_before q rs (before_alike c ok r.key q rs e (and_parts _ _ u).0) ∙ sym (lookup_before q ss (before_alike c ok s.key q ss f (and_parts _ _ v).0))
        both q Greater e f =
            lookup_before q rs (and_parts _ _ (before_all c ok q r rs e u)).1 ∙ sym (lookup_before q ss (and_parts _ _ (before_all c ok q s ss f v)).1)

        go : (((q : K) → lookup c q rs ≡ lookup c q ss) → rs ≡ ss) → (a : Ordering) → c r.key s.key ≡ a → r ∷ rs ≡ s ∷ ss
        go more Less e = let a = h r.key in let b = self_same c ok r.key in let d = exchanged c ok r.key s.key Less e in grind arith
        go more Equal e =
            let a = h r.key in
            let b = self_same c ok r.key in
            let x : r.key ≡ s.key = exact r.key s.key e in
            let d : rs ≡ ss = more (λ q. both q (c r.key q) refl (ap (λ y. c y q) (sym x))) in
            grind arith
        go more Greater e = let a = h s.key in let b = self_same c ok s.key in grind arith

    pub total_put : (w : K → V → ℕ) (rows : List (Record K V)) (k : K) (o : Option V) → rising c rows ≡ true →
        total w (put c k o rows) + weigh w k (lookup c k rows) ≡ total w rows + weigh w k o
    total_put w [] k o u = omega (arith, total_bind w k o [])
    total_put w (r ∷ rs) k o u = go (total_put w rs k o (and_parts _ _ u).1) (c r.key k) refl
      where
        go : total w (put c k o rs) + weigh w k (lookup c k rs) ≡ total w rs + weigh w k o → (a : Ordering) → c r.key k ≡ a →
            total w (by a (r ∷ put c k o rs) (bind k o rs) (bind k o (r ∷ rs))) + weigh w k (by a (lookup c k rs) (Some r.value) None) ≡ w r.key r.value + total w rs + weigh w k o
        go more Less e = omega arith
        go more Equal e = let x : w r.key r.value ≡ w k r.value = ap (λ y. w y r.value) (exact r.key k e) in omega (arith, total_bind w k o rs)
        go more Greater e = omega (arith, total_bind w k o (r ∷ rs))
