-- Walking through all that a store holds by asking again and again for the next simplex.
use Rattle.std.proofs.Common.{◌≡◌, ℕ, ◌+◌, ◌<◌, ◌≤◌, true, ◌&&◌, ltb, leb, List, [], ◌∷◌, length, Some, None, Ordering, Less, Equal, Greater, unwrap_or, sym, refl, ap, ◌∙◌, arith}
use Rattle.std.specs.Prelude.{sum_by}
use Rattle.std.proofs.lemmas.List.Sums.{sum_by-cons}
use Rattle.std.proofs.lemmas.Bool.{and_parts, leb-true, ltb-true}
use Rattle.order.specs.declared.record.Record.{Record}
use Rattle.order.specs.Assoc.{by, lookup, later, first, next, total, weigh}
use Rattle.order.proofs.Laters.{later_step, later_found}
use Rattle.order.proofs.Maps.{total_put, length_is_total}
use Rattle.complex.specs.Model.{Model, mask, write, Sorted}
use Rattle.complex.specs.Simplex.{colex, rises, proper, below}
use Rattle.complex.proofs.Order.{colex_lawful, colex_exact}
use Rattle.store.specs.Contents.{fits}
use Rattle.store.specs.Walk.{keys}

-- what is found is the first of those that are later
split : (L : Model) (s : List ℕ) → Some s ≡ first L → (r : Record (List ℕ) ℕ) × (rs : Model) × (L ≡ r ∷ rs) × (r.key ≡ s)
split [] s h = absurd (no h)
  where
    no : Some s ≡ None → ⊥
    no e = let z : ◌≡◌ {A = ℕ} 0 1 = cc in omega arith
split (r ∷ rs) s h = (r, rs, refl, cc)

module _ (M : Model) (sorted : Sorted M) (q s : List ℕ) (found : Some s ≡ next colex q M) where
  -- a sum over what is later, by the simplex that is found and what is later than that
  pub walk_step : (w : List ℕ → ℕ → ℕ) → total w (later colex q M) ≡ w s (mask M s) + total w (later colex s M)
  walk_step w =
      let p = split (later colex q M) s found in
      let r = p.0 in
      let value : mask M r.key ≡ r.value = ap (λ o. unwrap_or o 0) (later_found colex colex_lawful M q r p.1 sorted p.2) in
      ap (total w) p.2
      ∙ ap (λ m. w r.key m + total w p.1) (sym value)
      ∙ ap (λ L. w r.key (mask M r.key) + total w L) (sym (later_step colex colex_lawful M q r p.1 sorted p.2))
      ∙ ap (λ t. w t (mask M t) + total w (later colex t M)) p.3

  -- the walk to the next simplex, and what is later than that
  pub next_first : (r : Record (List ℕ) ℕ) × (later colex q M ≡ r ∷ later colex s M) × (r.key ≡ s)
  next_first =
      let p = split (later colex q M) s found in
      let r = p.0 in
      (r, p.2 ∙ ap (λ L. r ∷ L) (sym (later_step colex colex_lawful M q r p.1 sorted p.2) ∙ ap (λ k. later colex k M) p.3), p.3)

  -- what is left begins with what is found
  pub walk_on : keys (later colex q M) ≡ s ∷ keys (later colex s M)
  walk_on = ap keys next_first.1 ∙ ap (λ k. k ∷ keys (later colex s M)) next_first.2

  pub walk_shorter : length (later colex s M) < length (later colex q M)
  walk_shorter =
      omega (arith, walk_step (λ _ _. 1), length_is_total (later colex q M), length_is_total (later colex s M))

  -- what is found is held, so that removing it leaves fewer
  pub removing_shortens : length (write M s 0) < length M
  removing_shortens =
      let p = split (later colex q M) s found in
      let there : lookup colex s M ≡ Some p.0.value = ap (λ t. lookup colex t M) (sym p.3) ∙ later_found colex colex_lawful M q p.0 p.1 sorted p.2 in
      let one : weigh (λ _ _. 1) s (lookup colex s M) ≡ 1 = ap (weigh (λ _ _. 1) s) there in
      omega (arith, one, total_put colex colex_lawful colex_exact (λ _ _. 1) M s None sorted, length_is_total M, length_is_total (write M s 0))

-- what `fits` says of the first record and of the rest
pub record Fit (n : ℕ) (r : Record (List ℕ) ℕ) (rs : Model) : Type 0 where
  pub simplex : proper r.key ≡ true
  pub ranged : below n r.key ≡ true
  pub some : 0 < r.value
  pub byte : r.value < 256
  pub rest : fits n rs ≡ true

pub fit_parts : (n : ℕ) (r : Record (List ℕ) ℕ) (rs : Model) → fits n (r ∷ rs) ≡ true → Fit n r rs
fit_parts n r rs h =
    let a = proper r.key in
    let b = below n r.key in
    let c = ltb 0 r.value in
    let d = ltb r.value 256 in
    let p = and_parts (a && (b && (c && d))) (fits n rs) h in
    let q = and_parts a (b && (c && d)) p.0 in
    let s = and_parts b (c && d) q.1 in
    let t = and_parts c d s.1 in
    record { simplex = q.0; ranged = s.0; some = ltb-true 0 r.value t.0; byte = ltb-true r.value 256 t.1; rest = p.1 }

none_later : (L : Model) → None ≡ first L → L ≡ []
none_later [] h = refl
none_later (r ∷ rs) h = cc

-- nothing is later than the last
pub walk_ends : (M : Model) (q : List ℕ) → None ≡ next colex q M → later colex q M ≡ []
walk_ends M q h = none_later (later colex q M) h

longer : (s : List ℕ) → 1 ≤ length s → (a b c : Model) → by (colex s []) a b c ≡ c
longer [] l a b c = absurd (omega arith)
longer (x ∷ s) l a b c = refl

-- every simplex is later than the empty one
pub all_later : (n : ℕ) (M : Model) → fits n M ≡ true → later colex [] M ≡ M
all_later n [] f = refl
all_later n (r ∷ rs) f =
    longer r.key (leb-true 1 (length r.key) (and_parts (leb 1 (length r.key)) (leb (length r.key) 4 && rises r.key) (fit_parts n r rs f).simplex).0) (later colex [] rs) rs (r ∷ rs)

-- a sum over what is later than q, by the masks of its simplexes
pub total_by_masks : (w : List ℕ → ℕ → ℕ) (M : Model) → Sorted M → (q : List ℕ) → total w (later colex q M) ≡ sum_by (λ k. w k (mask M k)) (keys (later colex q M))
total_by_masks w M sorted q = go q (later colex q M) refl
  where
    go : (q : List ℕ) (L : Model) → later colex q M ≡ L → total w L ≡ sum_by (λ k. w k (mask M k)) (keys L)
    go q [] e = refl
    go q (r ∷ rs) e =
        let value : mask M r.key ≡ r.value = ap (λ o. unwrap_or o 0) (later_found colex colex_lawful M q r rs sorted e) in
        let more = go r.key rs (later_step colex colex_lawful M q r rs sorted e) in
        omega (arith, more, ap (w r.key) value, sum_by-cons (λ k. w k (mask M k)) r.key (keys rs))

-- no mask is 0
pub none_is_zero : (n : ℕ) (M : Model) → fits n M ≡ true → (q : List ℕ) → lookup colex q M ≡ Some 0 → ⊥
none_is_zero n [] f q h = let z : ◌≡◌ {A = ℕ} 0 1 = cc in omega arith
none_is_zero n (r ∷ rs) f q h =
    go (none_is_zero n rs (fit_parts n r rs f).rest q) (fit_parts n r rs f).some (colex r.key q) h
  where
    here : (m : ℕ) → 0 < m → Some m ≡ Some 0 → ⊥
    here m l e = let z : m ≡ 0 = cc in omega arith

    go : (lookup colex q rs ≡ Some 0 → ⊥) → 0 < r.value → (o : Ordering) → by o (lookup colex q rs) (Some r.value) None ≡ Some 0 → ⊥
    go more l Less e = more e
    go more l Equal e = here r.value l e
    go more l Greater e = let z : ◌≡◌ {A = ℕ} 0 1 = cc in omega arith

-- a sum of ones and zeros is at most the number of records
pub few_counted : (w : List ℕ → ℕ → ℕ) → ((s : List ℕ) (m : ℕ) → w s m ≤ 1) → (M : Model) → total w M ≤ length M
few_counted w f [] = omega arith
few_counted w f (r ∷ rs) = omega (arith, f r.key r.value, few_counted w f rs)
