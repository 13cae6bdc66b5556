-- Finding the simplex at a place, one vertex after the other, the last one first.
use Rattle.std.proofs.Common.{◌≡◌, ℕ, zero, suc, ◌-◌, ◌<◌, ◌≤◌, List, ◌∷◌, length, take, drop, set, sym, ap, ◌∙◌, add-one, arith}
use Rattle.std.proofs.lemmas.List.{drop_all, length-set, length-take-le}
use Rattle.grid_store.specs.Places.{vertex_range, places, first_place, term, size_at, largest, chosen, simplex_at}
use Rattle.grid_store.proofs.Chosen.{Largest, largest_is, chosen_step, chosen_all, size_at_is, place_left, simplex_chosen}
use Rattle.grid_store.proofs.Fronts.{read_from_write}

-- of the simplex at p the vertices from the k-th on stand in vs, and the others are below n with terms that add up to rest
pub record Finding (p size : ℕ) (vs : List ℕ) (k rest n : ℕ) : Type 0 where
  pub fewer : k ≤ size
  pub four : size ≤ 4
  pub long : length vs ≡ 4
  pub ranged : n ≤ vertex_range
  pub left : rest < term k n
  pub finds : chosen k rest n (drop k (take size vs)) ≡ simplex_at p

pub finding_starts : (p : ℕ) (vs : List ℕ) → p < places → length vs ≡ 4 → Finding p (size_at p) vs (size_at p) (p - first_place (size_at p)) vertex_range
finding_starts p vs h l =
    let four = (size_at_is p h).four in
    let none = drop_all (size_at p) (take (size_at p) vs) (omega (arith, length-take-le (size_at p) vs (omega arith))) in
    record {
      fewer = omega arith;
      four = four;
      long = l;
      ranged = omega arith;
      left = place_left p h;
      finds = ap (chosen (size_at p) (p - first_place (size_at p)) vertex_range) none ∙ sym (simplex_chosen p);
    }

module _ (p size : ℕ) (vs : List ℕ) (rest n : ℕ) where
  -- the vertex that is found is in range, and its term is within the rest
  pub found_within : (k : ℕ) → 0 < k → Finding p size vs k rest n → (largest k rest n < vertex_range) × (term k (largest k rest n) ≤ rest)
  found_within zero l f = absurd (omega arith)
  found_within (suc k) l f =
      let is = largest_is k rest n (omega (arith, f.fewer, f.four)) f.left in
      (omega (arith, is.ranged, f.ranged), is.within)

  pub finding_steps : (k : ℕ) → 0 < k → Finding p size vs k rest n → Finding p size (set vs (k - 1) (largest k rest n)) (k - 1) (rest - term k (largest k rest n)) (largest k rest n)
  finding_steps zero l f = absurd (omega arith)
  finding_steps (suc k) l f = rw e (record {
    fewer = omega (arith, f.fewer);
    four = f.four;
    long = length-set vs k x ∙ f.long;
    ranged = omega (arith, is.ranged, f.ranged);
    left = is.left;
    finds = ap (chosen k (rest - term (suc k) x) x) front ∙ sym (chosen_step k rest n (drop (suc k) (take size vs))) ∙ f.finds;
  })
    where
      x : ℕ
      x = largest (suc k) rest n

      is : Largest k rest n x
      is = largest_is k rest n (omega (arith, f.fewer, f.four)) f.left

      e : suc k - 1 ≡ k
      e = omega arith

      front : drop k (take size (set vs k x)) ≡ x ∷ drop (suc k) (take size vs)
      front = read_from_write size vs k x (omega (arith, f.fewer)) (omega (arith, f.four, f.long)) ∙ ap (λ i. x ∷ drop i (take size vs)) (add-one k)

  pub finding_ends : (k : ℕ) → k ≡ 0 → Finding p size vs k rest n → take size vs ≡ simplex_at p
  finding_ends zero e f = sym (chosen_all rest n (take size vs)) ∙ f.finds
  finding_ends (suc k) e f = absurd (omega arith)
