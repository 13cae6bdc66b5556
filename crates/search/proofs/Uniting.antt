-- One node after another is joined with the earlier nodes.
use Rattle.std.proofs.Common.{◌≡◌, ℕ, zero, suc, ◌+◌, ◌<◌, Bool, true, false, cond, ◌&&◌, List, [], ◌∷◌, length, get_or, take, drop, Some, None, fold, filter, Option, Ordering, Less, Equal, Greater, sym, refl, ap, ◌∙◌, subst, arith}
use Rattle.std.specs.Ordering.{is_eq, is_lt}
use Rattle.std.proofs.lemmas.List.{length-map, get_or-map, get_or-take, map_more, take-map}
use Rattle.std.proofs.lemmas.Bool.{and_parts, and_from}
use Rattle.std.specs.Cmp.{IsTotalOrder}
use Rattle.order.specs.Assoc.{by, before, rising, lookup}
use Rattle.order.specs.declared.record.Record.{Record}
use Rattle.order.proofs.Ranks.{self_same}
use Rattle.table.proofs.Places.{equal_is_below, found_equal, lookup_found}
use Rattle.search.specs.Classes.{renamed, lessened, merged, united}
use Rattle.search.specs.Nodes.{own, Ordered, keys, Leads, NextJoined}

module _ {N : Type 0} (c : N → N → Ordering) where
  before_take : (k : N) (n : ℕ) (nodes : List N) → before c k (own nodes) ≡ true → before c k (own (take n nodes)) ≡ true
  before_take k zero nodes b = refl
  before_take k (suc n) [] b = refl
  before_take k (suc n) (x ∷ xs) b = and_from _ _ (and_parts _ _ b).0 (before_take k n xs (and_parts _ _ b).1)

  ordered_take : (n : ℕ) (nodes : List N) → Ordered c nodes → Ordered c (take n nodes)
  ordered_take zero nodes u = refl
  ordered_take (suc n) [] u = refl
  ordered_take (suc n) (x ∷ xs) u = and_from _ _ (before_take x n xs (and_parts _ _ u).0) (ordered_take n xs (and_parts _ _ u).1)

  -- the nodes before a place come before the node at it
  pub leads : (rows : List (Record N N)) (at : ℕ) (d : Record N N) → Ordered c (keys rows) → at < length rows → Leads c (take at rows) (get_or rows at d).key
  leads rows at d u h = subst (Ordered c) (take-map (λ r. r.key) (at + 1) rows ∙ map_more (λ r. r.key) rows at d h) (ordered_take (at + 1) (keys rows) u)

  before_keys : (k : N) (rows : List (Record N N)) → before c k (own (keys rows)) ≡ before c k rows
  before_keys k [] = refl
  before_keys k (r ∷ rs) = ap (λ b. is_lt (c k r.key) && b) (before_keys k rs)

  -- records rise where their keys do
  pub rising_keys : (rows : List (Record N N)) → rising c (own (keys rows)) ≡ rising c rows
  rising_keys [] = refl
  rising_keys (r ∷ rs) = ap (λ b. b && rising c (own (keys rs))) (before_keys r.key rs) ∙ ap (λ b. before c r.key rs && b) (rising_keys rs)

  keys_renamed : (a b : N) (rows : List (Record N N)) → keys (renamed c a b rows) ≡ keys rows
  keys_renamed a b [] = refl
  keys_renamed a b (r ∷ rs) = ap (λ k. k ∷ keys (renamed c a b rs)) (go (is_eq (c r.value a))) ∙ ap (λ ks. r.key ∷ ks) (keys_renamed a b rs)
    where
      go : (e : Bool) → (cond e (record { key = r.key; value = b }) r).key ≡ r.key
      go true = refl
      go false = refl

  pub keys_lessened : (a b : N) (rows : List (Record N N)) → keys (lessened c a b rows) ≡ keys rows
  keys_lessened a b rows = go (c a b)
    where
      go : (o : Ordering) → keys (by o (renamed c b a rows) rows (renamed c a b rows)) ≡ keys rows
      go Less = keys_renamed b a rows
      go Equal = refl
      go Greater = keys_renamed a b rows

  module _ (ok : IsTotalOrder c) where
    -- the label at a place is that of the key there
    pub lookup_at : (rows : List (Record N N)) (n : ℕ) (d : Record N N) → rising c rows ≡ true → n < length rows → lookup c (get_or rows n d).key rows ≡ Some (get_or rows n d).value
    lookup_at rows n d u h =
        let k = (get_or rows n d).key in
        let is = equal_is_below c ok k rows n d h u (self_same c ok k) in
        lookup_found c k rows d (found_equal c k rows n is d h (self_same c ok k)) ∙ ap (λ m. Some (get_or rows m d).value) (sym is)

    united_at : (rows : List (Record N N)) (i j : ℕ) (d : Record N N) → rising c rows ≡ true → i < length rows → j < length rows →
        united c (get_or rows i d).key rows (get_or rows j d).key ≡ lessened c (get_or rows i d).value (get_or rows j d).value rows
    united_at rows i j d u h k = ap (λ o. merged c o (lookup c (get_or rows j d).key rows) rows) (lookup_at rows i d u h) ∙ ap (λ o. merged c (Some (get_or rows i d).value) o rows) (lookup_at rows j d u k)

    module _ (J : N → Bool) (old rows : List (Record N N)) (at : ℕ) (d : Record N N) (same : keys rows ≡ keys old) (sorted : Ordered c (keys old)) (within : at < length old) where
      long : length rows ≡ length old
      long = sym (length-map rows (λ r. r.key)) ∙ ap length same ∙ length-map old (λ r. r.key)

      abbrev pub node : N
      node = (get_or old at d).key

      node_at : (get_or rows at d).key ≡ node
      node_at =
          let e = d.key in
          sym (get_or-map (λ r. r.key) rows at d e (omega (arith, long, within))) ∙ ap (λ ks. get_or ks at e) same ∙ get_or-map (λ r. r.key) old at d e within

      earlier : keys (take at rows) ≡ take at (keys old)
      earlier = sym (take-map (λ r. r.key) at rows) ∙ ap (take at) same

      -- the nodes before the place come before its node
      pub leads_still : Leads c (take at rows) node
      leads_still = subst (Leads c (take at rows)) node_at (leads rows at d (subst (Ordered c) (sym same) sorted) (omega (arith, long, within)))

      pub next_told : (front : List (Record N N)) → front ≡ take at rows → (from : ℕ) (r : Option ℕ) → (Leads c front node → NextJoined J front from r) → NextJoined J (take at rows) from r
      next_told front is from r told = subst (λ rs. NextJoined J rs from r) is (told (subst (λ rs. Leads c rs node) (sym is) leads_still))

      -- no more of them are joined
      pub joins_end : (from : ℕ) → NextJoined J (take at rows) from None → fold (united c node) rows (filter J (drop from (take at (keys old)))) ≡ rows
      joins_end from none = ap (fold (united c node) rows) (sym (ap (λ ks. filter J (drop from ks)) earlier) ∙ none)

      -- the node at the next place is joined, and the others are left
      pub joins_on : (from place : ℕ) → place < at → NextJoined J (take at rows) from (Some place) → (new : List (Record N N)) → new ≡ lessened c (get_or rows at d).value (get_or rows place d).value rows →
          (keys new ≡ keys old) × (fold (united c node) new (filter J (drop (place + 1) (take at (keys old)))) ≡ fold (united c node) rows (filter J (drop from (take at (keys old)))))
      joins_on from place under next new is =
          let left = λ (n : ℕ). ap (λ ks. filter J (drop n ks)) earlier in
          let at_place : get_or (take at rows) place d ≡ get_or rows place d = get_or-take at rows place d under in
          let step : filter J (drop from (take at (keys old))) ≡ (get_or rows place d).key ∷ filter J (drop (place + 1) (take at (keys old))) =
          sym (left from) ∙ next d ∙ ap (λ r. r.key ∷ filter J (drop (place + 1) (keys (take at rows)))) at_place ∙ ap (λ ks. (get_or rows place d).key ∷ ks) (left (place + 1)) in
          let here : united c node rows (get_or rows place d).key ≡ new =
          ap (λ x. united c x rows (get_or rows place d).key) (sym node_at)
          ∙ united_at rows at place d (sym (rising_keys rows) ∙ ap (λ ks. rising c (own ks)) same ∙ sorted) (omega (arith, long, within)) (omega (arith, long, within, under)) ∙ sym is in
          (ap keys is ∙ keys_lessened _ _ rows ∙ same, sym (ap (fold (united c node) rows) step ∙ ap (λ rs. fold (united c node) rs (filter J (drop (place + 1) (take at (keys old))))) here))
