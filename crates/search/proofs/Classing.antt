-- The labels that are gathered are the least nodes of the classes.
use Rattle.std.proofs.Common.{◌≡◌, Bool, true, false, cond, ◌⊎◌, List, [], ◌∷◌, ◌++◌, Some, None, fold, filter, Option, Ordering, Less, Equal, Greater, sym, refl, ap, ◌∙◌, subst, inl, inr, append_assoc}
use Rattle.std.specs.Ordering.{is_eq, is_lt}
use Rattle.std.proofs.lemmas.Bool.{and_parts, cond-true, true≢false}
use Rattle.std.specs.Cmp.{IsTotalOrder}
use Rattle.order.specs.Assoc.{by, before, lookup}
use Rattle.order.specs.Chain.{here, step}
use Rattle.order.specs.declared.record.Record.{Record}
use Rattle.order.proofs.Chains.{chain_then, chain_back}
use Rattle.order.proofs.Ranks.{is_less, self_same, exchanged}
use Rattle.search.specs.Classes.{relabelled, renamed, lessened, merged, united, joined_on, gathered_from, gathered, Joined, OneClass, Classed}
use Rattle.search.specs.Nodes.{Member, own, Ordered}
use Rattle.search.proofs.Gathering.{keys_gathered}

-- a label changed as a record's is
abbrev relabel : {N : Type 0} → (N → N → Ordering) → N → N → N → N
relabel c a b v = cond (is_eq (c v a)) b v

abbrev mapped : {N : Type 0} → (N → N) → Option N → Option N
mapped f None = None
mapped f (Some v) = Some (f v)

some_inj : {N : Type 0} (x y : N) → Some x ≡ Some y → x ≡ y
some_inj x y e = cc

is_equal : (o : Ordering) → is_eq o ≡ true → o ≡ Equal
is_equal Less h = cc
is_equal Equal h = refl
is_equal Greater h = cc

less≢equal : (o : Ordering) → o ≡ Less → o ≡ Equal → ⊥
less≢equal o l e = true≢false (sym (ap is_lt l) ∙ ap is_lt e)

greater≢equal : (o : Ordering) → o ≡ Greater → o ≡ Equal → ⊥
greater≢equal o g e = true≢false (sym (ap is_eq e) ∙ ap is_eq g)

cond_same : {X : Type 0} (b : Bool) (x : X) → cond b x x ≡ x
cond_same true x = refl
cond_same false x = refl

-- membership of lists that are put together or sifted
module _ {N : Type 0} where
  member_append : (x : N) (xs ys : List N) → Member x (xs ++ ys) → Member x xs ⊎ Member x ys
  member_append x [] ys m = inr m
  member_append x (z ∷ zs) ys (inl e) = inl (inl e)
  member_append x (z ∷ zs) ys (inr m) = go (member_append x zs ys m)
    where
      go : Member x zs ⊎ Member x ys → Member x (z ∷ zs) ⊎ Member x ys
      go (inl k) = inl (inr k)
      go (inr k) = inr k

  member_kept : (p : N → Bool) (x : N) (xs : List N) → Member x (filter p xs) → Member x xs × (p x ≡ true)
  member_kept p x [] m = absurd m
  member_kept p x (z ∷ zs) m = go (member_kept p x zs) (p z) refl m
    where
      go : (Member x (filter p zs) → Member x zs × (p x ≡ true)) → (b : Bool) → p z ≡ b → Member x (cond b (z ∷ filter p zs) (filter p zs)) → Member x (z ∷ zs) × (p x ≡ true)
      go more true e (inl f) = (inl f, ap p f ∙ e)
      go more true e (inr k) = let i = more k in (inr i.0, i.1)
      go more false e k = let i = more k in (inr i.0, i.1)

  kept_member : (p : N → Bool) (x : N) (xs : List N) → Member x xs → p x ≡ true → Member x (filter p xs)
  kept_member p x [] m h = absurd m
  kept_member p x (z ∷ zs) m h = go (λ k. kept_member p x zs k h) (p z) refl m
    where
      go : (Member x zs → Member x (filter p zs)) → (b : Bool) → p z ≡ b → Member x (z ∷ zs) → Member x (cond b (z ∷ filter p zs) (filter p zs))
      go more true e (inl f) = inl f
      go more true e (inr k) = inr (more k)
      go more false e (inl f) = absurd (true≢false (sym h ∙ ap p f ∙ e))
      go more false e (inr k) = more k

module _ {N : Type 0} (c : N → N → Ordering) where
  mapped_by : (f : N → N) (o : Ordering) (L : Option N) (v : N) → mapped f (by o L (Some v) None) ≡ by o (mapped f L) (Some (f v)) None
  mapped_by f Less L v = refl
  mapped_by f Equal L v = refl
  mapped_by f Greater L v = refl

  relabelled_key : (a b : N) (r : Record N N) → (relabelled c a b r).key ≡ r.key
  relabelled_key a b r = go (is_eq (c r.value a))
    where
      go : (e : Bool) → (cond e (record { key = r.key; value = b }) r).key ≡ r.key
      go true = refl
      go false = refl

  relabelled_value : (a b : N) (r : Record N N) → (relabelled c a b r).value ≡ relabel c a b r.value
  relabelled_value a b r = go (is_eq (c r.value a))
    where
      go : (e : Bool) → (cond e (record { key = r.key; value = b }) r).value ≡ cond e b r.value
      go true = refl
      go false = refl

  lookup_renamed : (a b k : N) (rows : List (Record N N)) → lookup c k (renamed c a b rows) ≡ mapped (relabel c a b) (lookup c k rows)
  lookup_renamed a b k [] = refl
  lookup_renamed a b k (r ∷ rs) =
      ap (λ x. by (c x k) (lookup c k (renamed c a b rs)) (Some (relabelled c a b r).value) None) (relabelled_key a b r)
      ∙ ap (λ v. by (c r.key k) (lookup c k (renamed c a b rs)) (Some v) None) (relabelled_value a b r)
      ∙ ap (λ L. by (c r.key k) L (Some (relabel c a b r.value)) None) (lookup_renamed a b k rs)
      ∙ sym (mapped_by (relabel c a b) (c r.key k) (lookup c k rs) r.value)

  -- nodes with one label keep one label
  united_keeps : (x y u v : N) (rows : List (Record N N)) → lookup c u rows ≡ lookup c v rows → lookup c u (united c x rows y) ≡ lookup c v (united c x rows y)
  united_keeps x y u v rows e = go (lookup c x rows) (lookup c y rows)
    where
      after : (a b : N) → lookup c u (renamed c a b rows) ≡ lookup c v (renamed c a b rows)
      after a b = lookup_renamed a b u rows ∙ ap (mapped (relabel c a b)) e ∙ sym (lookup_renamed a b v rows)

      on : (a b : N) (o : Ordering) → lookup c u (by o (renamed c b a rows) rows (renamed c a b rows)) ≡ lookup c v (by o (renamed c b a rows) rows (renamed c a b rows))
      on a b Less = after b a
      on a b Equal = e
      on a b Greater = after a b

      go : (o p : Option N) → lookup c u (merged c o p rows) ≡ lookup c v (merged c o p rows)
      go None p = e
      go (Some a) None = e
      go (Some a) (Some b) = on a b (c a b)

  module _ (ok : IsTotalOrder c) where
    before_member : (k y : N) (xs : List N) → before c k (own xs) ≡ true → Member y xs → c k y ≡ Less
    before_member k y [] b m = absurd m
    before_member k y (x ∷ xs) b (inl e) = ap (c k) e ∙ is_less _ (and_parts _ _ b).0
    before_member k y (x ∷ xs) b (inr m) = before_member k y xs (and_parts _ _ b).1 m

    -- nodes that stand in order are the same only where they are equal
    distinct : (xs : List N) → Ordered c xs → (a b : N) → Member a xs → Member b xs → c a b ≡ Equal → a ≡ b
    distinct [] u a b m n e = absurd m
    distinct (x ∷ xs) u a b (inl f) (inl g) e = f ∙ sym g
    distinct (x ∷ xs) u a b (inl f) (inr n) e = absurd (less≢equal (c a b) (ap (λ y. c y b) f ∙ before_member x b xs (and_parts _ _ u).0 n) e)
    distinct (x ∷ xs) u a b (inr m) (inl g) e = absurd (greater≢equal (c a b) (ap (c a) g ∙ exchanged c ok x a Less (before_member x a xs (and_parts _ _ u).0 m)) e)
    distinct (x ∷ xs) u a b (inr m) (inr n) e = distinct xs (and_parts _ _ u).1 a b m n e

    own_label : (xs : List N) → Ordered c xs → (x : N) → Member x xs → lookup c x (own xs) ≡ Some x
    own_label [] u x m = absurd m
    own_label (y ∷ ys) u x (inl e) = ap (λ o. by o (lookup c x (own ys)) (Some y) None) (ap (c y) e ∙ self_same c ok y) ∙ ap Some (sym e)
    own_label (y ∷ ys) u x (inr m) = ap (λ o. by o (lookup c x (own ys)) (Some y) None) (before_member y x ys (and_parts _ _ u).0 m) ∙ own_label ys (and_parts _ _ u).1 x m

    module _ (nodes : List N) (sorted : Ordered c nodes) (J : N → N → Bool) (both : (x y : N) → Member x nodes → Member y nodes → J x y ≡ J y x) where
      joined_back : (x y : N) → Joined nodes J x y → Joined nodes J y x
      joined_back x y j = (j.1, j.0, both y x j.1 j.0 ∙ j.2)

      class_member : {x y : N} → Member x nodes → OneClass nodes J x y → Member y nodes
      class_member m here = m
      class_member m (step j h) = class_member j.1 h

      -- every node has a label, a node of its class that is no greater
      record Labels (rows : List (Record N N)) : Type 0 where
        some : (x : N) → Member x nodes → (l : N) × (lookup c x rows ≡ Some l)
        within : (x l : N) → Member x nodes → lookup c x rows ≡ Some l → OneClass nodes J x l
        lower : (x l : N) → Member x nodes → lookup c x rows ≡ Some l → is_lt (c x l) ≡ false

      own_labels : Labels (own nodes)
      own_labels = record {
        some = λ x m. (x, own_label nodes sorted x m);
        within = λ x l m e. subst (OneClass nodes J x) (is x l m e) here;
        lower = λ x l m e. ap (λ k. is_lt (c x k)) (sym (is x l m e)) ∙ ap is_lt (self_same c ok x);
      }
        where
          is : (x l : N) → Member x nodes → lookup c x (own nodes) ≡ Some l → x ≡ l
          is x l m e = some_inj x l (sym (own_label nodes sorted x m) ∙ e)

      -- a label gives way to a lesser one of its class
      renamed_labels : (rows : List (Record N N)) → Labels rows → (a b : N) → Member a nodes → OneClass nodes J a b → c b a ≡ Less → Labels (renamed c a b rows)
      renamed_labels rows has a b m way less = record { some = some; within = λ x l n e. (new x l n e).0; lower = λ x l n e. (new x l n e).1 }
        where
          some : (x : N) → Member x nodes → (l : N) × (lookup c x (renamed c a b rows) ≡ Some l)
          some x n = let s = has.some x n in (relabel c a b s.0, lookup_renamed a b x rows ∙ ap (mapped (relabel c a b)) s.1)

          lower : (x : N) → is_lt (c x a) ≡ false → (o : Ordering) → c x b ≡ o → is_lt o ≡ false
          lower x low Less e = absurd (true≢false (sym (ap is_lt (ok.trans x b a e less)) ∙ low))
          lower x low Equal e = refl
          lower x low Greater e = refl

          go : (x l : N) → Member x nodes → lookup c x rows ≡ Some l → (s : Bool) → is_eq (c l a) ≡ s → OneClass nodes J x (cond s b l) × (is_lt (c x (cond s b l)) ≡ false)
          go x l n e true f =
              let is : l ≡ a = distinct nodes sorted l a (class_member n (has.within x l n e)) m (is_equal (c l a) f) in
              (chain_then (subst (OneClass nodes J x) is (has.within x l n e)) way, lower x (ap (λ k. is_lt (c x k)) (sym is) ∙ has.lower x l n e) (c x b) refl)
          go x l n e false f = (has.within x l n e, has.lower x l n e)

          new : (x l : N) → Member x nodes → lookup c x (renamed c a b rows) ≡ Some l → OneClass nodes J x l × (is_lt (c x l) ≡ false)
          new x l n e =
              let s = has.some x n in
              let is : relabel c a b s.0 ≡ l = some_inj _ l (sym (lookup_renamed a b x rows ∙ ap (mapped (relabel c a b)) s.1) ∙ e) in
              subst (λ k. OneClass nodes J x k × (is_lt (c x k) ≡ false)) is (go x s.0 n s.1 (is_eq (c s.0 a)) refl)

      -- the classes of two joined nodes become one
      united_labels : (rows : List (Record N N)) (x y : N) → Labels rows → Joined nodes J x y → Labels (united c x rows y) × (lookup c y (united c x rows y) ≡ lookup c x (united c x rows y))
      united_labels rows x y has j = subst (λ new. Labels new × (lookup c y new ≡ lookup c x new)) (sym is) (go (c a b) refl)
        where
          a : N
          a = (has.some x j.0).0

          at_x : lookup c x rows ≡ Some a
          at_x = (has.some x j.0).1

          b : N
          b = (has.some y j.1).0

          at_y : lookup c y rows ≡ Some b
          at_y = (has.some y j.1).1

          is : united c x rows y ≡ lessened c a b rows
          is = ap (λ o. merged c o (lookup c y rows) rows) at_x ∙ ap (λ o. merged c (Some a) o rows) at_y

          way : OneClass nodes J a b
          way = chain_then (chain_back joined_back (has.within x a j.0 at_x)) (step j (has.within y b j.1 at_y))

          in_a : Member a nodes
          in_a = class_member j.0 (has.within x a j.0 at_x)

          in_b : Member b nodes
          in_b = class_member j.1 (has.within y b j.1 at_y)

          -- the label of a node after a renaming
          after : (s t k l : N) → lookup c k rows ≡ Some l → lookup c k (renamed c s t rows) ≡ Some (relabel c s t l)
          after s t k l e = lookup_renamed s t k rows ∙ ap (mapped (relabel c s t)) e

          gone : (s t : N) → relabel c s t s ≡ t
          gone s t = cond-true (is_eq (c s s)) t s (ap is_eq (self_same c ok s))

          stays : (s t : N) → relabel c s t t ≡ t
          stays s t = cond_same (is_eq (c t s)) t

          go : (o : Ordering) → c a b ≡ o → Labels (by o (renamed c b a rows) rows (renamed c a b rows)) × (lookup c y (by o (renamed c b a rows) rows (renamed c a b rows)) ≡ lookup c x (by o (renamed c b a rows) rows (renamed c a b rows)))
          go Less e = (renamed_labels rows has b a in_b (chain_back joined_back way) e, after b a y b at_y ∙ ap Some (gone b a ∙ sym (stays b a)) ∙ sym (after b a x a at_x))
          go Equal e = (has, at_y ∙ ap Some (sym (distinct nodes sorted a b in_a in_b e)) ∙ sym at_x)
          go Greater e = (renamed_labels rows has a b in_a way (exchanged c ok a b Greater e), after a b y b at_y ∙ ap Some (stays a b ∙ sym (gone a b)) ∙ sym (after a b x a at_x))

      -- what joining x with these leaves: all of them have its label, and nodes with one label keep one
      record Joins (x : N) (ys : List N) (rows new : List (Record N N)) : Type 0 where
        labels : Labels new
        same : (y : N) → Member y ys → lookup c y new ≡ lookup c x new
        keeps : (u v : N) → lookup c u rows ≡ lookup c v rows → lookup c u new ≡ lookup c v new

      joins : (x : N) (ys : List N) (rows : List (Record N N)) → Labels rows → ((y : N) → Member y ys → Joined nodes J x y) → Joins x ys rows (fold (united c x) rows ys)
      joins x [] rows has all = record { labels = has; same = λ y m. absurd m; keeps = λ u v e. e }
      joins x (z ∷ zs) rows has all =
          let one = united_labels rows x z has (all z (inl refl)) in
          let more = joins x zs (united c x rows z) one.0 (λ y m. all y (inr m)) in
          record {
            labels = more.labels;
            same = λ y m. each y (more.keeps z x one.1) more.same m;
            keeps = λ u v e. more.keeps u v (united_keeps x z u v rows e);
          }
        where
          new : List (Record N N)
          new = fold (united c x) (united c x rows z) zs

          each : (y : N) → lookup c z new ≡ lookup c x new → ((y : N) → Member y zs → lookup c y new ≡ lookup c x new) → Member y (z ∷ zs) → lookup c y new ≡ lookup c x new
          each y one more (inl e) = ap (λ k. lookup c k new) e ∙ one
          each y one more (inr m) = more y m

      -- joined nodes of the list have one label
      abbrev Settled : List N → List (Record N N) → Type 0
      Settled xs rows = (u v : N) → Member u xs → Member v xs → J u v ≡ true → lookup c u rows ≡ lookup c v rows

      gathered_labels : (earlier xs : List N) (rows : List (Record N N)) → ((x : N) → Member x earlier → Member x nodes) → ((x : N) → Member x xs → Member x nodes) → Labels rows → Settled earlier rows →
          Labels (gathered_from c J earlier rows xs) × Settled (earlier ++ xs) (gathered_from c J earlier rows xs)
      gathered_labels earlier [] rows in_front in_rest has settled = (has, λ u v m n. settled u v (only u m) (only v n))
        where
          only : (u : N) → Member u (earlier ++ []) → Member u earlier
          only u m = go (member_append u earlier [] m)
            where
              go : Member u earlier ⊎ ⊥ → Member u earlier
              go (inl k) = k
              go (inr k) = absurd k
      gathered_labels earlier (x ∷ xs) rows in_front in_rest has settled =
          let more = gathered_labels (earlier ++ x ∷ []) xs new (λ u m. in_both u (member_append u earlier (x ∷ []) m)) (λ u m. in_rest u (inr m)) done.labels (λ u v m n. now_settled u v (member_append u earlier (x ∷ []) m) (member_append v earlier (x ∷ []) n)) in
          (more.0, subst (λ all. Settled all (gathered_from c J (earlier ++ x ∷ []) new xs)) (append_assoc earlier (x ∷ []) xs) more.1)
        where
          in_x : Member x nodes
          in_x = in_rest x (inl refl)

          new : List (Record N N)
          new = joined_on c J earlier rows x

          done : Joins x (filter (J x) earlier) rows (fold (united c x) rows (filter (J x) earlier))
          done = joins x (filter (J x) earlier) rows has (λ y m. let k = member_kept (J x) y earlier m in (in_x, in_front y k.0, k.1))

          in_both : (u : N) → Member u earlier ⊎ Member u (x ∷ []) → Member u nodes
          in_both u (inl m) = in_front u m
          in_both u (inr (inl e)) = subst (λ k. Member k nodes) (sym e) in_x
          in_both u (inr (inr m)) = absurd m

          with_x : (u v : N) → v ≡ x → Member u earlier → J x u ≡ true → lookup c u new ≡ lookup c v new
          with_x u v e m h = done.same u (kept_member (J x) u earlier m h) ∙ ap (λ k. lookup c k new) (sym e)

          now_settled : (u v : N) → Member u earlier ⊎ Member u (x ∷ []) → Member v earlier ⊎ Member v (x ∷ []) → J u v ≡ true → lookup c u new ≡ lookup c v new
          now_settled u v (inl m) (inl n) h = done.keeps u v (settled u v m n h)
          now_settled u v (inl m) (inr (inl e)) h = with_x u v e m (both x u in_x (in_front u m) ∙ ap (J u) (sym e) ∙ h)
          now_settled u v (inl m) (inr (inr n)) h = absurd n
          now_settled u v (inr (inl e)) (inl n) h = sym (with_x v u e n (ap (λ k. J k v) (sym e) ∙ h))
          now_settled u v (inr (inl e)) (inr (inl f)) h = ap (λ k. lookup c k new) (e ∙ sym f)
          now_settled u v (inr (inl e)) (inr (inr n)) h = absurd n
          now_settled u v (inr (inr m)) n h = absurd m

      -- the labels of the gathered nodes are the least nodes of their classes
      pub gathered_classed : Classed c J nodes (gathered c J nodes)
      gathered_classed = record {
        listed = keys_gathered c J nodes;
        labelled = all.0.some;
        within = all.0.within;
        least = λ x l y m e w. all.0.lower y l (class_member m w) (sym (alike x y m w) ∙ e);
        alike = alike;
        leads = leads;
      }
        where
          all : Labels (gathered c J nodes) × Settled nodes (gathered c J nodes)
          all = gathered_labels [] nodes (own nodes) (λ x m. absurd m) (λ x m. m) own_labels (λ u v m. absurd m)

          alike : (x y : N) → Member x nodes → OneClass nodes J x y → lookup c x (gathered c J nodes) ≡ lookup c y (gathered c J nodes)
          alike x y m here = refl
          alike x y m (step {y = z} j w) = all.1 x z j.0 j.1 j.2 ∙ alike z y j.1 w

          leads : (x : N) → Member x nodes → ((y : N) → OneClass nodes J x y → is_lt (c y x) ≡ false) → lookup c x (gathered c J nodes) ≡ Some x
          leads x m first = go (c x l) refl
            where
              l : N
              l = (all.0.some x m).0

              at_x : lookup c x (gathered c J nodes) ≡ Some l
              at_x = (all.0.some x m).1

              go : (o : Ordering) → c x l ≡ o → lookup c x (gathered c J nodes) ≡ Some x
              go Less e = absurd (true≢false (sym (ap is_lt e) ∙ all.0.lower x l m at_x))
              go Equal e = at_x ∙ ap Some (sym (distinct nodes sorted x l m (class_member m (all.0.within x l m at_x)) e))
              go Greater e = absurd (true≢false (sym (ap is_lt (exchanged c ok x l Greater e)) ∙ first l (all.0.within x l m at_x)))
