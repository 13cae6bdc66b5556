-- Taking back a collapse base by base: what is left to split, and that the number held only rises towards that of the model before.
use Rattle.std.proofs.Common.{◌≡◌, ℕ, zero, suc, ◌+◌, ◌<◌, ◌≤◌, Bool, true, false, cond, not, ◌&&◌, leb, ◌⊎◌, List, [], ◌∷◌, length, get_or, drop, Some, None, filter, sym, refl, ap, ◌∙◌, subst, inl, inr, add-one, arith}
use lib.Bits.{bit_or, bit_and, or_add_and}
use Rattle.std.proofs.lemmas.Bool.{and_parts, and_left, and_right, cases_Bool, cond-true, cond-false, leb-false, ne_eqb, not_from_true, true≢false}
use Rattle.order.specs.Assoc.{first, later, next, total}
use Rattle.order.specs.declared.record.Record.{Record}
use Rattle.order.proofs.Laters.{later_step, later_found}
use Rattle.order.proofs.Ranks.{self_same}
use Rattle.complex.specs.Model.{Model, mask, present, write, Sorted}
use Rattle.complex.specs.Simplex.{colex, below, has, plus, less, Rising}
use Rattle.complex.proofs.Order.{colex_lawful, colex_exact}
use Rattle.complex.proofs.Writes.{write_keeps_order}
use Rattle.collapse.specs.Image.{collapse}
use Rattle.collapse.specs.Laws.{Positive, Shaped, Exact, merged}
use Rattle.collapse.specs.Link.{Base}
use Rattle.collapse.specs.Split.{bases, former, split_one, split_each, split}
use Rattle.collapse.proofs.Eulers.{Member, mask_here, mask_other, total_write, over_sorted, over_other, over_total}
use Rattle.collapse.proofs.Images.{Listed, before_listed, lookup_listed, listed_lookup, listed_mask, same_masks, write_keeps_positive, image_masks}
use Rattle.collapse.proofs.Legals.{untied_is_exact}
use Rattle.collapse.proofs.Splits.{split_inverts}
use Rattle.collapse.proofs.Vertices.{has_less, less_rising, plus_less, plus_rising, plus_comm, less_plus, alike, rest, with_u_has_u, with_u_lacks_v, with_v_has_v, with_v_lacks_u, with_both_has_v, u_is_not_v, rest_of_u, rest_of_v, rest_of_both}
use Rattle.simplex.specs.Simplexes.{fitted}
use Rattle.store.specs.Contents.{Contents, holding, Stored, most_simplexes, fits}
use Rattle.store.specs.Puts.{put_next}
use Rattle.store.proofs.Walks.{few_counted, fit_parts, walk_ends, all_later, none_is_zero}
use Rattle.trail.specs.Notes.{Note}
use Rattle.trail.specs.Questions.{newest_pair}
use Rattle.model.specs.Sides.{one_sided, sided, first_sided}
use Rattle.model.specs.Splits.{newest_pairs, one_held, Takes, SplitsAt, Undoes}
use Rattle.model.proofs.Changes.{put_accepted}
use Rattle.history.proofs.Fitted.{fits_shaped, fits_ranged}
use Rattle.model.proofs.Passing.{later_put, passing_rising, passing_later, passing_put}
use Rattle.model.proofs.Noting.{member_listed}

-- how many of the records have a mask
abbrev count : Model → ℕ
count M = total (λ _ m. one_held m) M

one_counts : (m : ℕ) → 0 < m → one_held m ≡ 1
one_counts m h = cond-false _ 0 1 (ne_eqb m 0 (omega arith))

none_counts : (m : ℕ) → m ≡ 0 → one_held m ≡ 0
none_counts m e = ap one_held e

counts_one_at_most : (m : ℕ) → one_held m ≤ 1
counts_one_at_most zero = omega arith
counts_one_at_most (suc m) = omega (arith, one_counts (suc m) (omega arith))

-- of what a store can hold every record counts
all_count : (n : ℕ) (M : Model) → fits n M ≡ true → count M ≡ length M
all_count n [] f = refl
all_count n (r ∷ rs) f = let p = fit_parts n r rs f in omega (arith, one_counts r.value p.some, all_count n rs p.rest)

count_few : (M : Model) → count M ≤ length M
count_few M = few_counted (λ _ m. one_held m) (λ s m. counts_one_at_most m) M

-- a put that a store takes writes the mask
pub taken : (c d : Contents) (k : List ℕ) (m : ℕ) → Takes c k m → d ≡ put_next c k m → d ≡ holding c (write c.model k m)
taken c d k zero takes e = e
taken c d k (suc m) takes e = e ∙ put_accepted c k (suc m) (omega arith) (takes.ranged (omega arith)) (takes.room (omega arith))

-- what a list was fitted as
pub fitted_is : (s k : List ℕ) → Some s ≡ fitted k → s ≡ k
fitted_is s k h = go (leb (length k) 4) h
  where
    go : (b : Bool) → Some s ≡ cond b (Some k) None → s ≡ k
    go true h = cc
    go false h = cc

pub not_fitted : (k : List ℕ) → None ≡ fitted k → leb (length k) 4 ≡ false
not_fitted k h = go (leb (length k) 4) h
  where
    go : (b : Bool) → None ≡ cond b (Some k) None → b ≡ false
    go true h = cc
    go false h = refl

-- to remove what is absent changes nothing
removed_absent : (M : Model) (k : List ℕ) → Sorted M → Positive M → mask M k ≡ 0 → write M k 0 ≡ M
removed_absent M k sorted positive z =
    same_masks (write M k 0) M (write_keeps_order M k 0 sorted) sorted (write_keeps_positive M k 0 sorted positive) positive (λ q. go q (alike q k))
  where
    go : (q : List ℕ) → (q ≡ k) ⊎ (q ≡ k → ⊥) → mask (write M k 0) q ≡ mask M q
    go q (inl e) = ap (mask (write M k 0)) e ∙ mask_here M k 0 sorted ∙ sym z ∙ ap (mask M) (sym e)
    go q (inr h) = mask_other M k q 0 sorted h

-- a list of five vertices is absent, and gets no mask
pub five_absent : (c : Contents) (k : List ℕ) (m : ℕ) → Stored c → Takes c k m → leb (length k) 4 ≡ false → c ≡ holding c (write c.model k m)
five_absent c k zero st takes five =
    ap (holding c) (sym (removed_absent c.model k st.sorted (none_is_zero c.range c.model st.fit) (absent (mask c.model k) refl)))
  where
    absent : (m : ℕ) → mask c.model k ≡ m → m ≡ 0
    absent zero e = refl
    absent (suc m) e =
        let long = leb-false (length k) 4 five in
        let short = (fits_shaped c.range c.model st.fit k (rw e (omega arith))).2 in
        absurd (omega arith)
five_absent c k (suc m) st takes five = let short = takes.small (omega arith) in let long = leb-false (length k) 4 five in absurd (omega arith)

-- the three puts over a base, one after another
module _ (u v : ℕ) (c : Contents) (s : List ℕ) (a b : ℕ) (at : SplitsAt u v c s a b) (st : Stored c) where
  pub first_taken : Takes c (plus u s) a
  first_taken = record { small = at.u_small; ranged = at.u_ranged; room = λ l z. let h = at.there in absurd (omega arith) }

  first_count : count (write c.model (plus u s) a) + 1 ≡ length c.model + one_held a
  first_count =
      omega (arith, total_write (λ _ m. one_held m) (λ k. refl) c.model (plus u s) a st.sorted, one_counts (mask c.model (plus u s)) at.there, all_count c.range c.model st.fit)

  pub second_taken : (d : Contents) → Stored d → d ≡ holding c (write c.model (plus u s) a) → Takes d (plus v s) b
  second_taken d std e = record {
    small = at.v_small;
    ranged = λ l. ap (λ x. below x.range (plus v s)) e ∙ at.v_ranged l;
    room = λ l z. omega (arith, first_count, all_count d.range d.model std.fit, ap (λ x. count x.model) e, ap (λ x. x.limit) e, at.room, one_counts b l);
  }

  pub third_taken : (d : Contents) → Stored d → d ≡ holding c (write (write c.model (plus u s) a) (plus v s) b) → Takes d (plus u (plus v s)) (bit_and a b)
  third_taken d std e =
      let K = write c.model (plus u s) a in
      let none : mask K (plus v s) ≡ 0 = mask_other c.model (plus u s) (plus v s) a st.sorted (λ h. u_is_not_v u v at.distinct s at.base (sym h)) ∙ at.no_v in
      let second = total_write (λ _ m. one_held m) (λ k. refl) K (plus v s) b (write_keeps_order c.model (plus u s) a st.sorted) in
      record {
        small = at.both_small;
        ranged = λ l. ap (λ x. below x.range (plus u (plus v s))) e ∙ at.both_ranged l;
        room = λ l z. omega (arith, first_count, second, none_counts (mask K (plus v s)) none, all_count d.range d.model std.fit, ap (λ x. count x.model) e, ap (λ x. x.limit) e, at.room, one_counts (bit_and a b) l);
      }

-- t with v is s + u + v, where t is s + u
pub with_both : (u v : ℕ) (t : List ℕ) → Rising t → has u t ≡ true → plus v t ≡ plus u (plus v (less u t))
with_both u v t rising h = ap (plus v) (sym (plus_less u t rising h)) ∙ sym (plus_comm u v (less u t) (less_rising u t rising))

-- one write after another
pub two_written : (c d e : Contents) (j k : List ℕ) (a b : ℕ) → d ≡ holding c (write c.model j a) → e ≡ holding d (write d.model k b) → e ≡ holding c (write (write c.model j a) k b)
two_written c d e j k a b f g = g ∙ ap (λ x. holding x (write x.model k b)) f

-- over s the split to M has yet to come: of the three simplexes the model now, K, has s + u alone, and M has s + u or s + v
pub record Open (u v : ℕ) (M K : Model) (s : List ℕ) : Type 0 where
  pub base : Base u v s
  pub there : 0 < mask K (plus u s)
  pub no_v : mask K (plus v s) ≡ 0
  pub no_both : mask K (plus u (plus v s)) ≡ 0
  pub former : 0 < one_held (mask M (plus u s)) + one_held (mask M (plus v s))

-- over each of the list, which has no base twice
abbrev pub Opens : ℕ → ℕ → Model → Model → List (List ℕ) → Type 0
Opens u v M K [] = Unit {0}
Opens u v M K (s ∷ ss) = Open u v M K s × (Member s ss → ⊥) × Opens u v M K ss

-- the split over s that leads to M
abbrev towards : ℕ → ℕ → Model → Model → List ℕ → Model
towards u v M K s = split_one u v K s (mask M (plus u s)) (mask M (plus v s))

module _ (u v : ℕ) (n : u ≡ v → ⊥) (M : Model) where
  open_stays : (K : Model) → Sorted K → (s t : List ℕ) → Base u v s → (s ≡ t → ⊥) → Open u v M K t → Open u v M (towards u v M K s) t
  open_stays K sorted s t base h o =
      let a = mask M (plus u s) in
      let b = mask M (plus v s) in
      let same : (q : List ℕ) → rest u v q ≡ t → mask (towards u v M K s) q ≡ mask K q = λ q e. over_other u v n s base K sorted a b (bit_and a b) q (λ f. h (sym f ∙ e)) in
      let us = same (plus u t) (rest_of_u u v n t o.base) in
      record {
        base = o.base;
        there = omega (arith, us, o.there);
        no_v = same (plus v t) (rest_of_v u v n t o.base) ∙ o.no_v;
        no_both = same (plus u (plus v t)) (rest_of_both u v n t o.base) ∙ o.no_both;
        former = o.former;
      }

  opens_stay : (K : Model) → Sorted K → (s : List ℕ) (ss : List (List ℕ)) → Base u v s → (Member s ss → ⊥) → Opens u v M K ss → Opens u v M (towards u v M K s) ss
  opens_stay K sorted s [] base h o = tt
  opens_stay K sorted s (t ∷ ss) base h o = (open_stays K sorted s t base (λ e. h (inl e)) o.0, o.1, opens_stay K sorted s ss base (λ m. h (inr m)) o.2)

  towards_sorted : (K : Model) → Sorted K → (s : List ℕ) → Base u v s → Sorted (towards u v M K s)
  towards_sorted K sorted s base = over_sorted u v n s base K sorted (mask M (plus u s)) (mask M (plus v s)) (bit_and (mask M (plus u s)) (mask M (plus v s)))

  -- one simplex gives way to those that get a mask
  towards_count : (K : Model) → Sorted K → (s : List ℕ) → Open u v M K s →
      count (towards u v M K s) + 1 ≡ count K + one_held (mask M (plus u s)) + one_held (mask M (plus v s)) + one_held (bit_and (mask M (plus u s)) (mask M (plus v s)))
  towards_count K sorted s o =
      let a = mask M (plus u s) in
      let b = mask M (plus v s) in
      omega (arith, over_total u v n s o.base K sorted a b (bit_and a b) (λ _ m. one_held m) (λ k. refl), one_counts (mask K (plus u s)) o.there, none_counts (mask K (plus v s)) o.no_v, none_counts (mask K (plus u (plus v s))) o.no_both)

  -- splits never lower the number held
  count_rises : (ss : List (List ℕ)) (K : Model) → Sorted K → Opens u v M K ss → count K ≤ count (split_each u v K ss (former u v M ss))
  count_rises [] K sorted o = omega arith
  count_rises (s ∷ ss) K sorted o =
      let more = count_rises ss (towards u v M K s) (towards_sorted K sorted s o.0.base) (opens_stay K sorted s ss o.0.base o.1 o.2) in
      omega (arith, towards_count K sorted s o.0, o.0.former)

-- the bases that the walk has yet to meet from q on
abbrev pub ahead : ℕ → ℕ → Model → List ℕ → List (List ℕ)
ahead u v K q = bases u (later colex q (sided u v K))

-- the walk has come to q, and split i bases
pub record Underway (u v : ℕ) (M K : Model) (ps : List (ℕ × ℕ)) (q : List ℕ) (i : ℕ) : Type 0 where
  pub leads : split_each u v K (ahead u v K q) (former u v M (ahead u v K q)) ≡ M
  pub pairs : drop i ps ≡ former u v M (ahead u v K q)
  pub opens : Opens u v M K (ahead u v K q)

-- what is found is the first of the rows
first_is : (L : Model) (s : List ℕ) → Some s ≡ first L → (r : Record (List ℕ) ℕ) × (rs : Model) × (L ≡ r ∷ rs) × (r.key ≡ s)
first_is [] s h = let z : ◌≡◌ {A = ℕ} 0 1 = cc in absurd (omega arith)
first_is (r ∷ rs) s h = (r, rs, refl, cc)

passing_passes : (p : List ℕ → Bool) (r : Record (List ℕ) ℕ) (M : Model) → Listed r (filter (λ x. p x.key) M) → p r.key ≡ true
passing_passes p r [] l = absurd l
passing_passes p r (x ∷ xs) l = go (passing_passes p r xs) (p x.key) refl l
  where
    go : (Listed r (filter (λ y. p y.key) xs) → p r.key ≡ true) → (b : Bool) → p x.key ≡ b → Listed r (cond b (x ∷ filter (λ y. p y.key) xs) (filter (λ y. p y.key) xs)) → p r.key ≡ true
    go more true e (inl h) = ap (λ y. p y.key) h ∙ e
    go more true e (inr l) = more l
    go more false e l = more l

module _ (u v : ℕ) (K : Model) (sorted : Sorted K) where
  sided_sorted : Sorted (sided u v K)
  sided_sorted = passing_rising colex colex_lawful (one_sided u v) K sorted

  sided_later : (q : List ℕ) → later colex q (sided u v K) ≡ sided u v (later colex q K)
  sided_later q = passing_later colex colex_lawful (one_sided u v) q K sorted

  -- the first of those that are found is the next with u and without v
  pub sided_is_next : (q : List ℕ) → first_sided u v (later colex q K) ≡ next colex q (sided u v K)
  sided_is_next q = go (later colex q K) ∙ sym (ap first (sided_later q))
    where
      go : (L : Model) → first_sided u v L ≡ first (sided u v L)
      go [] = refl
      go (r ∷ rs) = one (go rs) (one_sided u v r.key)
        where
          one : first_sided u v rs ≡ first (sided u v rs) → (b : Bool) → cond b (Some r.key) (first_sided u v rs) ≡ first (cond b (r ∷ sided u v rs) (sided u v rs))
          one more true = refl
          one more false = more

  -- the next of the simplexes with u and without v stands over the next base
  next_base : (q t : List ℕ) → Some t ≡ next colex q (sided u v K) → (has u t ≡ true) × (ahead u v K q ≡ less u t ∷ ahead u v K t)
  next_base q t found =
      let p = first_is (later colex q (sided u v K)) t found in
      let r = p.0 in
      let listed = lookup_listed r.key r.value (sided u v K) (later_found colex colex_lawful (sided u v K) q r p.1 sided_sorted p.2) in
      let here : has u r.key ≡ true = (and_parts _ _ (passing_passes (one_sided u v) _ K listed)).0 in
      let step = later_step colex colex_lawful (sided u v K) q r p.1 sided_sorted p.2 in
      let e : ahead u v K q ≡ less u r.key ∷ ahead u v K r.key = ap (bases u) p.2 ∙ cond-true (has u r.key) _ _ here ∙ ap (λ l. less u r.key ∷ bases u l) (sym step) in
      (ap (has u) (sym p.3) ∙ here, e ∙ ap (λ k. less u k ∷ ahead u v K k) p.3)

  -- a split over s changes nothing of what is ahead of s + u
  split_leaves_ahead : (u ≡ v → ⊥) → (s : List ℕ) (a b : ℕ) → Base u v s → ahead u v (split_one u v K s a b) (plus u s) ≡ ahead u v K (plus u s)
  split_leaves_ahead n s a b base =
      let t = plus u s in
      let X = write K t a in
      let has_v : one_sided u v (plus u (plus v s)) ≡ false = and_right _ _ (not_from_true _ (with_both_has_v u v n s base)) in
      let no_u : one_sided u v (plus v s) ≡ false = and_left _ _ (with_v_lacks_u u v n s base) in
      let third : sided u v (split_one u v K s a b) ≡ sided u v (write X (plus v s) b) = passing_put colex colex_lawful (one_sided u v) colex_exact (plus u (plus v s)) _ (write X (plus v s) b) has_v in
      let second : sided u v (write X (plus v s) b) ≡ sided u v X = passing_put colex colex_lawful (one_sided u v) colex_exact (plus v s) _ X no_u in
      ap (λ L. bases u (later colex t L)) (third ∙ second)
      ∙ ap (bases u) (passing_later colex colex_lawful (one_sided u v) t X (write_keeps_order K t a sorted)
      ∙ ap (sided u v) (later_put colex colex_lawful t (present a) K sorted)
      ∙ sym (sided_later t))

-- the element that is dropped next
drop_head : {X : Type 0} (xs : List X) (i : ℕ) (d x : X) (ys : List X) → drop i xs ≡ x ∷ ys → (get_or xs i d ≡ x) × (drop (i + 1) xs ≡ ys) × (i < length xs)
drop_head {X = X} xs i d x ys h = let p = go xs i h in (p.0, ap (λ j. drop j xs) (add-one i) ∙ p.1, p.2)
  where
    go : (xs : List X) (i : ℕ) → drop i xs ≡ x ∷ ys → (get_or xs i d ≡ x) × (drop (suc i) xs ≡ ys) × (i < length xs)
    go [] zero h = (cc, cc, let z : ◌≡◌ {A = ℕ} 0 1 = cc in absurd (omega arith))
    go [] (suc i) h = (cc, cc, let z : ◌≡◌ {A = ℕ} 0 1 = cc in absurd (omega arith))
    go (y ∷ ys) zero h = (cc, cc, omega arith)
    go (y ∷ ys) (suc i) h = let p = go ys i h in (p.0, p.1, omega (arith, p.2))

-- a turn of the walk: the next simplex with u and without v is t
module _ (u v : ℕ) (n : u ≡ v → ⊥) (M K : Model) (ps : List (ℕ × ℕ)) (q t : List ℕ) (i : ℕ) (way : Underway u v M K ps q i) (sorted : Sorted K) (found : Some t ≡ next colex q (sided u v K)) where
  ahead_is : ahead u v K q ≡ less u t ∷ ahead u v K t
  ahead_is = (next_base u v K sorted q t found).1

  opens_here : Opens u v M K (less u t ∷ ahead u v K t)
  opens_here = subst (Opens u v M K) ahead_is way.opens

  pairs_here : drop i ps ≡ (mask M (plus u (less u t)), mask M (plus v (less u t))) ∷ former u v M (ahead u v K t)
  pairs_here = way.pairs ∙ ap (former u v M) ahead_is

  pair_is : get_or ps i (0, 0) ≡ (mask M (plus u (less u t)), mask M (plus v (less u t)))
  pair_is = (drop_head ps i (0, 0) _ _ pairs_here).0

  pair_left : i < length ps
  pair_left = (drop_head ps i (0, 0) _ _ pairs_here).2

  fewer_ahead : length (ahead u v K t) < length (ahead u v K q)
  fewer_ahead = omega (arith, ap length ahead_is)

  leads_here : split_each u v (towards u v M K (less u t)) (ahead u v K t) (former u v M (ahead u v K t)) ≡ M
  leads_here = sym (ap (λ ss. split_each u v K ss (former u v M ss)) ahead_is) ∙ way.leads

  goes_on_at : plus u (less u t) ≡ t → Underway u v M (towards u v M K (less u t)) ps t (i + 1)
  goes_on_at whole =
      let s = less u t in
      let o = opens_here in
      let same : ahead u v (towards u v M K s) t ≡ ahead u v K t = subst (λ (x : List ℕ). ahead u v (towards u v M K s) x ≡ ahead u v K x) whole (split_leaves_ahead u v K sorted n s (mask M (plus u s)) (mask M (plus v s)) o.0.base) in
      record {
        leads = ap (λ ss. split_each u v (towards u v M K s) ss (former u v M ss)) same ∙ leads_here;
        pairs = (drop_head ps i (0, 0) _ _ pairs_here).1 ∙ ap (former u v M) (sym same);
        opens = subst (Opens u v M (towards u v M K s)) (sym same) (opens_stay u v n M K sorted s (ahead u v K t) o.0.base o.1 o.2);
      }

  goes_on : Rising t → Underway u v M (split_one u v K (less u t) (get_or ps i (0, 0)).0 (get_or ps i (0, 0)).1) ps t (i + 1)
  goes_on rising =
      subst (λ (p : ℕ × ℕ). Underway u v M (split_one u v K (less u t) p.0 p.1) ps t (i + 1)) (sym pair_is)
      (goes_on_at (plus_less u t rising (next_base u v K sorted q t found).0))

-- the store takes the masks of the next pair
next_splits : (u v : ℕ) (M : Model) (c : Contents) (ps : List (ℕ × ℕ)) (q t : List ℕ) (i : ℕ) → (u ≡ v → ⊥) → Exact u v M → fits c.range M ≡ true → length M ≤ c.limit → Stored c →
    Underway u v M c.model ps q i → Some t ≡ next colex q (sided u v c.model) → SplitsAt u v c (less u t) (get_or ps i (0, 0)).0 (get_or ps i (0, 0)).1
next_splits u v M c ps q t i n exact fit few st way found =
    subst (λ (p : ℕ × ℕ). SplitsAt u v c (less u t) p.0 p.1) (sym (pair_is u v n M K ps q t i way st.sorted found))
    (record {
      distinct = n;
      base = o.0.base;
      there = o.0.there;
      no_v = o.0.no_v;
      no_both = o.0.no_both;
      u_small = λ l. (shaped (plus u s) l).2;
      u_ranged = λ l. ranged (plus u s) l;
      v_small = λ l. (shaped (plus v s) l).2;
      v_ranged = λ l. ranged (plus v s) l;
      both_small = λ l. (shaped (plus u (plus v s)) (omega (arith, both, l))).2;
      both_ranged = λ l. ranged (plus u (plus v s)) (omega (arith, both, l));
      room = omega (arith, towards_count u v n M K st.sorted s o.0, rises, all_count c.range K st.fit, count_few M, ap count (leads_here u v n M K ps q t i way st.sorted found));
    })
  where
    K : Model
    K = c.model

    s : List ℕ
    s = less u t

    o : Opens u v M K (s ∷ ahead u v K t)
    o = opens_here u v n M K ps q t i way st.sorted found

    shaped : Shaped M
    shaped = fits_shaped c.range M fit

    ranged : (k : List ℕ) → 0 < mask M k → below c.range k ≡ true
    ranged = fits_ranged c.range M fit

    both : mask M (plus u (plus v s)) ≡ bit_and (mask M (plus u s)) (mask M (plus v s))
    both = exact s o.0.base

    rises : count (towards u v M K s) ≤ count (split_each u v (towards u v M K s) (ahead u v K t) (former u v M (ahead u v K t)))
    rises = count_rises u v n M (ahead u v K t) (towards u v M K s) (towards_sorted u v n M K st.sorted s o.0.base) (opens_stay u v n M K st.sorted s (ahead u v K t) o.0.base o.1 o.2)

-- with none ahead all is split
pub none_ahead : (u v : ℕ) (M K : Model) (ps : List (ℕ × ℕ)) (q : List ℕ) (i : ℕ) → Underway u v M K ps q i → None ≡ next colex q (sided u v K) → K ≡ M
none_ahead u v M K ps q i way h =
    sym (ap (λ L. split_each u v K (bases u L) (former u v M (bases u L))) (walk_ends (sided u v K) q h)) ∙ way.leads

-- the bases of a model stand once each
bases_open : (u v : ℕ) (M K : Model) (rows : Model) → Sorted rows → ((r : Record (List ℕ) ℕ) → Listed r rows → Rising r.key) →
    ((r : Record (List ℕ) ℕ) → Listed r rows → has u r.key ≡ true → Open u v M K (less u r.key)) → Opens u v M K (bases u rows)
bases_open u v M K [] sorted rising opened = tt
bases_open u v M K (r ∷ rs) sorted rising opened =
    go (bases_open u v M K rs (and_parts _ _ sorted).1 (λ x l. rising x (inr l)) (λ x l. opened x (inr l))) (has u r.key) refl
  where
    once : has u r.key ≡ true → Member (less u r.key) (bases u rs) → ⊥
    once h m =
        let p = member_listed u (less u r.key) rs m in
        let same : r.key ≡ p.0.key = sym (plus_less u r.key (rising r (inl refl)) h) ∙ ap (plus u) p.3 ∙ plus_less u p.0.key (rising p.0 (inr p.1)) p.2 in
        let under = before_listed r.key p.0 rs (and_parts _ _ sorted).0 p.1 in
        let equal = ap (λ k. colex k p.0.key) same ∙ self_same colex colex_lawful p.0.key in
        let z : ◌≡◌ {A = ℕ} 0 1 = cc in
        omega arith

    go : Opens u v M K (bases u rs) → (b : Bool) → has u r.key ≡ b → Opens u v M K (cond b (less u r.key ∷ bases u rs) (bases u rs))
    go more true h = (opened r (inl refl) h, once h, more)
    go more false h = more

one_of_both : (a b : ℕ) → 0 < bit_or a b → 0 < one_held a + one_held b
one_of_both zero zero h = let s = or_add_and 0 0 in absurd (omega arith)
one_of_both zero (suc b) h = omega (arith, one_counts (suc b) (omega arith))
one_of_both (suc a) b h = omega (arith, one_counts (suc a) (omega arith))

-- where no simplex has v, those with u have it alone
sided_bases : (u v : ℕ) (rows : Model) → ((r : Record (List ℕ) ℕ) → Listed r rows → has v r.key ≡ false) → bases u (sided u v rows) ≡ bases u rows
sided_bases u v [] none = refl
sided_bases u v (r ∷ rs) none = go (sided_bases u v rs (λ x l. none x (inr l))) (has u r.key) refl (has v r.key) refl (none r (inl refl))
  where
    go : bases u (sided u v rs) ≡ bases u rs → (a : Bool) → has u r.key ≡ a → (b : Bool) → has v r.key ≡ b → b ≡ false → bases u (cond (a && not b) (r ∷ sided u v rs) (sided u v rs)) ≡ cond a (less u r.key ∷ bases u rs) (bases u rs)
    go more true e true f h = absurd (true≢false h)
    go more true e false f h = cond-true (has u r.key) _ _ e ∙ ap (λ ss. less u r.key ∷ ss) more
    go more false e b f h = more

-- what the record splits to is the model before the collapse
pub splits_to : (u v : ℕ) (c : Contents) (ps : List (ℕ × ℕ)) (M : Model) → Undoes u v c ps M → split u v c.model ps ≡ M
splits_to u v c ps M undoes =
    ap (λ L. split u v L ps) undoes.made ∙ ap (split u v (collapse u v M)) undoes.recorded ∙ split_inverts u v M undoes.allowed.distinct undoes.sound undoes.allowed.untied

exact_before : (u v : ℕ) (c : Contents) (ps : List (ℕ × ℕ)) (M : Model) → Undoes u v c ps M → Exact u v M
exact_before u v c ps M undoes = (untied_is_exact u v M undoes.sound.legal undoes.sound.narrow).0 undoes.allowed.untied

recorded_over : (u v : ℕ) (c : Contents) (ps : List (ℕ × ℕ)) (M : Model) → Undoes u v c ps M → ps ≡ former u v M (bases u c.model)
recorded_over u v c ps M undoes = undoes.recorded ∙ ap (λ L. former u v M (bases u L)) (sym undoes.made)

-- there are no more pairs than simplexes
pub few_pairs : (u v : ℕ) (c : Contents) (ps : List (ℕ × ℕ)) (M : Model) → Undoes u v c ps M → Stored c → length ps ≤ most_simplexes
few_pairs u v c ps M undoes st =
    omega (arith, ap length (recorded_over u v c ps M undoes), as_many (bases u c.model), few_bases c.model, st.room, st.few)
  where
    as_many : (ss : List (List ℕ)) → length (former u v M ss) ≡ length ss
    as_many [] = refl
    as_many (s ∷ ss) = ap suc (as_many ss)

    few_bases : (rows : Model) → length (bases u rows) ≤ length rows
    few_bases [] = omega arith
    few_bases (r ∷ rs) = let more = few_bases rs in grind arith

-- the walk before its first turn
pub starts : (u v : ℕ) (c : Contents) (ps : List (ℕ × ℕ)) (M : Model) → Undoes u v c ps M → Stored c → Underway u v M c.model ps [] 0
starts u v c ps M undoes st = record {
  leads = ap (λ ss. split_each u v N ss (former u v M ss)) all_ahead ∙ ap (split u v N) (sym pairs) ∙ splits_to u v c ps M undoes;
  pairs = pairs ∙ ap (former u v M) (sym all_ahead);
  opens = subst (Opens u v M N) (sym all_ahead) (bases_open u v M N N st.sorted (λ r l. rising r l) open_here);
}
  where
    N : Model
    N = c.model

    n : u ≡ v → ⊥
    n = undoes.allowed.distinct

    pairs : ps ≡ former u v M (bases u N)
    pairs = recorded_over u v c ps M undoes

    masks : (t : List ℕ) → Rising t → mask N t ≡ merged u v M t
    masks t r = ap (λ L. mask L t) undoes.made ∙ (image_masks u v M n undoes.sound.sorted undoes.sound.shaped undoes.sound.legal).rising t r

    held : (r : Record (List ℕ) ℕ) → Listed r N → 0 < mask N r.key
    held r l = go (mask N r.key) refl
      where
        go : (m : ℕ) → mask N r.key ≡ m → 0 < m
        go zero e = absurd (none_is_zero c.range N st.fit r.key (listed_lookup r N st.sorted l ∙ ap Some (sym (listed_mask r N st.sorted l) ∙ e)))
        go (suc m) e = omega arith

    rising : (r : Record (List ℕ) ℕ) → Listed r N → Rising r.key
    rising r l = (fits_shaped c.range N st.fit r.key (held r l)).0

    -- what has v is gone
    gone : (t : List ℕ) → Rising t → has v t ≡ true → mask N t ≡ 0
    gone t r x = masks t r ∙ rw x

    lacks : (r : Record (List ℕ) ℕ) → Listed r N → has v r.key ≡ false
    lacks r l = go (cases_Bool (has v r.key))
      where
        go : (has v r.key ≡ true) ⊎ (has v r.key ≡ false) → has v r.key ≡ false
        go (inl x) = let z = gone r.key (rising r l) x in let k = held r l in absurd (omega arith)
        go (inr x) = x

    all_ahead : ahead u v N [] ≡ bases u N
    all_ahead =
        ap (bases u) (sided_later u v N st.sorted [] ∙ ap (sided u v) (all_later c.range N st.fit))
        ∙ sided_bases u v N lacks

    joint : (s : List ℕ) → Base u v s → mask N (plus u s) ≡ bit_or (mask M (plus u s)) (mask M (plus v s))
    joint s b = masks (plus u s) (plus_rising u s b.rising) ∙ rw (with_u_lacks_v u v n s b, with_u_has_u u v n s b, less_plus u s b.rising b.no_u)

    base_at : (r : Record (List ℕ) ℕ) → Listed r N → Base u v (less u r.key)
    base_at r l =
        let a = has_less u u r.key (rising r l) in
        let b = has_less v u r.key (rising r l) in
        let k = lacks r l in
        record { rising = less_rising u r.key (rising r l); no_u = grind arith; no_v = grind arith }

    open_here : (r : Record (List ℕ) ℕ) → Listed r N → has u r.key ≡ true → Open u v M N (less u r.key)
    open_here r l h =
        let s = less u r.key in
        let base = base_at r l in
        let there : 0 < mask N (plus u s) = omega (arith, ap (mask N) (plus_less u r.key (rising r l) h), held r l) in
        record {
          base = base;
          there = there;
          no_v = gone (plus v s) (plus_rising v s base.rising) (with_v_has_v u v n s base);
          no_both = gone (plus u (plus v s)) (plus_rising u (plus v s) (plus_rising v s base.rising)) (with_both_has_v u v n s base);
          former = one_of_both (mask M (plus u s)) (mask M (plus v s)) (omega (arith, joint s base, there));
        }

-- the pair of a number, by the list of pairs
pub pair_at : (ns : List Note) (i : ℕ) → newest_pair ns i ≡ get_or (newest_pairs ns) i (0, 0)
pair_at [] i = refl
pair_at (n ∷ ns) i = refl

-- a turn of the walk in a store: begun at `start`, it holds c, has come to q, and finds t and the pair p
pub record Turn (u v : ℕ) (start c : Contents) (ps : List (ℕ × ℕ)) (M : Model) (q t : List ℕ) (i : ℕ) (p : ℕ × ℕ) : Type 0 where
  pub undoes : Undoes u v start ps M
  pub same : c ≡ holding start c.model
  pub stored : Stored c
  pub way : Underway u v M c.model ps q i
  pub found : Some t ≡ next colex q (sided u v c.model)
  pub pair : p ≡ get_or ps i (0, 0)

module _ (u v : ℕ) (start c : Contents) (ps : List (ℕ × ℕ)) (M : Model) (q t : List ℕ) (i : ℕ) (p : ℕ × ℕ) (turn : Turn u v start c ps M q t i p) where
  pub turn_meets : has u t ≡ true
  turn_meets = (next_base u v c.model turn.stored.sorted q t turn.found).0

  pub turn_splits : SplitsAt u v c (less u t) p.0 p.1
  turn_splits =
      subst (λ (x : ℕ × ℕ). SplitsAt u v c (less u t) x.0 x.1) (sym turn.pair)
      (next_splits u v M c ps q t i turn.undoes.allowed.distinct (exact_before u v start ps M turn.undoes) (ap (λ x. fits x.range M) turn.same ∙ turn.undoes.fit) (omega (arith, ap (λ x. x.limit) turn.same, turn.undoes.room)) turn.stored turn.way turn.found)

  pub turn_counts : i < length ps
  turn_counts = pair_left u v turn.undoes.allowed.distinct M c.model ps q t i turn.way turn.stored.sorted turn.found

  module _ (d : Contents) (after : d ≡ holding c (split_one u v c.model (less u t) p.0 p.1)) (rising : Rising t) where
    pub turn_keeps : d ≡ holding start d.model
    turn_keeps =
        after ∙ ap (λ x. holding x (split_one u v c.model (less u t) p.0 p.1)) turn.same ∙ ap (holding start) (sym (ap (λ x. x.model) after))

    pub turn_goes_on : Underway u v M d.model ps t (i + 1)
    turn_goes_on =
        subst (λ (L : Model). Underway u v M L ps t (i + 1))
        (sym (ap (λ x. x.model) after ∙ ap (λ x. split_one u v c.model (less u t) x.0 x.1) turn.pair))
        (goes_on u v turn.undoes.allowed.distinct M c.model ps q t i turn.way turn.stored.sorted turn.found rising)

    pub turn_shorter : length (ahead u v d.model t) < length (ahead u v c.model q)
    turn_shorter =
        omega (arith, fewer_ahead u v turn.undoes.allowed.distinct M c.model ps q t i turn.way turn.stored.sorted turn.found, ap length (ap (λ x. ahead u v x.model t) after), ap length left)
      where
        whole : plus u (less u t) ≡ t
        whole = plus_less u t rising turn_meets

        left : ahead u v (split_one u v c.model (less u t) p.0 p.1) t ≡ ahead u v c.model t
        left =
            subst (λ (x : List ℕ). ahead u v (split_one u v c.model (less u t) p.0 p.1) x ≡ ahead u v c.model x) whole
            (split_leaves_ahead u v c.model turn.stored.sorted turn.undoes.allowed.distinct (less u t) p.0 p.1 turn_splits.base)
