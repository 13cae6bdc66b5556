-- At each place of the grid stands a simplex, and its place is that place.
use Rattle.std.proofs.Common.{◌≡◌, ℕ, zero, suc, ◌+◌, ◌-◌, ◌<◌, ◌≤◌, true, false, cond, ltb, leb, ◌⊎◌, List, [], ◌∷◌, length, refl, ap, ◌∙◌, ap₂, inl, inr, arith}
use Rattle.std.proofs.lemmas.Bool.{and_from, cases_Bool, cond_both, leb-true, leb-false, le-leb, ltb-true, ltb-false, lt-ltb}
use Rattle.complex.specs.Simplex.{colex, rises, below}
use Rattle.grid_store.specs.Places.{vertex_range, places, first_place, term, place, size_at, largest, chosen, simplex_at}
use Rattle.grid_store.proofs.Choose.{choose_more, term_chooses}
use Rattle.grid_store.proofs.Ranks.{chosen_terms, terms_chosen}
use Rattle.grid_store.specs.Laws.{InGrid}
use Rattle.grid_store.proofs.Order.{next_size, place_in_grid, places_keep_order, places_tell_apart}
use Rattle.std.specs.Ordering.{nat_cmp}

-- only a vertex that is not 0 adds to the place
pub adds_nothing : (k : ℕ) → 1 ≤ k → term k 0 ≡ 0
adds_nothing zero h = absurd (omega arith)
adds_nothing (suc zero) h = refl
adds_nothing (suc (suc zero)) h = refl
adds_nothing (suc (suc (suc zero))) h = refl
adds_nothing (suc (suc (suc (suc k)))) h = refl

-- the k-th term of x is at most r, and what is left is less than the term of x one place earlier
pub record Largest (k r n x : ℕ) : Type 0 where
  pub ranged : x < n
  pub within : term (suc k) x ≤ r
  pub left : r - term (suc k) x < term k x

pub largest_is : (k r n : ℕ) → suc k ≤ 4 → r < term (suc k) n → Largest k r n (largest (suc k) r n)
unfolding largest
largest_is k r zero h b = absurd (omega (arith, adds_nothing (suc k) (omega arith)))
largest_is k r (suc x) h b = go (largest_is k r x h) (cases_Bool (leb (term (suc k) x) r))
  where
    go : (r < term (suc k) x → Largest k r x (largest (suc k) r x)) → (leb (term (suc k) x) r ≡ true) ⊎ (leb (term (suc k) x) r ≡ false) →
        Largest k r (suc x) (cond (leb (term (suc k) x) r) x (largest (suc k) r x))
    go more (inl e) =
        let within = leb-true (term (suc k) x) r e in
        let left : r - term (suc k) x < term k x = omega (arith, term_chooses (suc k) x h, term_chooses k x (omega arith), term_chooses (suc k) (suc x) h, choose_more x k) in
        rw e (record { ranged = omega arith; within = within; left = left })
    go more (inr e) = let m = more (leb-false _ r e) in rw e (record { ranged = omega (arith, m.ranged); within = m.within; left = m.left })

-- s are rising vertices, before which each vertex below n may stand
record Open (n : ℕ) (s : List ℕ) : Type 0 where
  rising : rises s ≡ true
  free : (x : ℕ) → x < n → rises (x ∷ s) ≡ true
  ranged : below vertex_range s ≡ true

-- c are k vertices with terms that add up to r, and then s
record Chosen (k r : ℕ) (s c : List ℕ) : Type 0 where
  rising : rises c ≡ true
  ranged : below vertex_range c ≡ true
  size : length c ≡ k + length s
  sum : chosen_terms 1 c ≡ r + chosen_terms (suc k) s

opened : (n x : ℕ) (s : List ℕ) → x < n → n ≤ vertex_range → Open n s → Open x (x ∷ s)
opened n x s l b o = record {
  rising = o.free x l;
  free = λ y h. and_from (ltb y x) (rises (x ∷ s)) (lt-ltb y x h) (o.free x l);
  ranged = and_from (ltb x vertex_range) (below vertex_range s) (lt-ltb x vertex_range (omega arith)) o.ranged;
}

pub chosen_step : (k r n : ℕ) (s : List ℕ) → chosen (suc k) r n s ≡ chosen k (r - term (suc k) (largest (suc k) r n)) (largest (suc k) r n) (largest (suc k) r n ∷ s)
unfolding chosen
chosen_step k r n s = refl

pub chosen_all : (r n : ℕ) (s : List ℕ) → chosen 0 r n s ≡ s
unfolding chosen
chosen_all r n s = refl

chosen_is : (k r n : ℕ) (s : List ℕ) → k ≤ 4 → r < term k n → n ≤ vertex_range → Open n s → Chosen k r s (chosen k r n s)
unfolding chosen
chosen_is zero r n s h b l o = record { rising = o.rising; ranged = o.ranged; size = omega arith; sum = omega arith }
chosen_is (suc k) r n s h b l o =
    let x = largest (suc k) r n in
    let is = largest_is k r n h b in
    let c = chosen_is k (r - term (suc k) x) x (x ∷ s) (omega arith) is.left (omega (arith, is.ranged)) (opened n x s is.ranged l o) in
    record { rising = c.rising; ranged = c.ranged; size = omega (arith, c.size); sum = omega (arith, c.sum, is.within, term_chooses (suc k) x h) }

-- the size of the simplex at a place, whose simplexes stand up to the next size
pub record Sized (p k : ℕ) : Type 0 where
  pub some : 1 ≤ k
  pub four : k ≤ 4
  pub from : first_place k ≤ p
  pub upto : p < first_place (suc k)

pub size_at_is : (p : ℕ) → p < places → Sized p (size_at p)
size_at_is p h =
    cond_both (ltb p 32) 1 _ (Sized p)
    (λ e. record { some = omega arith; four = omega arith; from = omega arith; upto = ltb-true p 32 e })
    (λ e. cond_both (ltb p 528) 2 _ (Sized p)
    (λ f. record { some = omega arith; four = omega arith; from = ltb-false p 32 e; upto = ltb-true p 528 f })
    (λ f. cond_both (ltb p 5488) 3 4 (Sized p)
    (λ g. record { some = omega arith; four = omega arith; from = ltb-false p 528 f; upto = ltb-true p 5488 g })
    (λ g. record { some = omega arith; four = omega arith; from = ltb-false p 5488 g; upto = h })))

open_range : Open vertex_range []
open_range = record { rising = refl; free = λ x h. refl; ranged = refl }

pub place_left : (p : ℕ) → p < places → p - first_place (size_at p) < term (size_at p) vertex_range
place_left p h =
    let k = size_at_is p h in
    omega (arith, k.from, k.upto, next_size (size_at p) k.some k.four, term_chooses (size_at p) vertex_range k.four)

pub simplex_chosen : (p : ℕ) → simplex_at p ≡ chosen (size_at p) (p - first_place (size_at p)) vertex_range []
unfolding simplex_at
simplex_chosen p = refl

chosen_at : (p : ℕ) → p < places → Chosen (size_at p) (p - first_place (size_at p)) [] (simplex_at p)
unfolding simplex_at
chosen_at p h = chosen_is (size_at p) (p - first_place (size_at p)) vertex_range [] (size_at_is p h).four (place_left p h) (omega arith) open_range

-- at each place of the grid stands a simplex
pub simplex_in_grid : (p : ℕ) → p < places → InGrid (simplex_at p)
simplex_in_grid p h =
    let k = size_at_is p h in
    let c = chosen_at p h in
    let s = simplex_at p in
    record {
      simplex = and_from (leb 1 (length s)) _ (le-leb 1 (length s) (omega (arith, k.some, c.size))) (and_from (leb (length s) 4) (rises s) (le-leb (length s) 4 (omega (arith, k.four, c.size))) c.rising);
      ranged = c.ranged;
    }

pub place_of_simplex : (p : ℕ) → p < places → place (simplex_at p) ≡ p
place_of_simplex p h =
    let k = size_at_is p h in
    let c = chosen_at p h in
    let size : length (simplex_at p) ≡ size_at p = omega (arith, c.size) in
    omega (arith, terms_chosen 1 (simplex_at p) (omega (arith, k.four)), c.sum, ap first_place size, k.from)

pub simplex_of_place : (s : List ℕ) → InGrid s → simplex_at (place s) ≡ s
simplex_of_place s g =
    let h = place_in_grid s g in
    places_tell_apart (simplex_at (place s)) s (simplex_in_grid (place s) h) g (place_of_simplex (place s) h)

-- the simplexes stand in their order
pub simplexes_rise : (p q : ℕ) → p < places → q < places → colex (simplex_at p) (simplex_at q) ≡ nat_cmp p q
simplexes_rise p q h l =
    places_keep_order (simplex_at p) (simplex_at q) (simplex_in_grid p h) (simplex_in_grid q l) ∙ ap₂ nat_cmp (place_of_simplex p h) (place_of_simplex q l)
