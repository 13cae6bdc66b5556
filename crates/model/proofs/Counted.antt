-- The two counts of an Euler number, simplex by simplex.
use Rattle.std.proofs.Common.{◌≡◌, ℕ, ◌+◌, ◌≤◌, Bool, true, false, cond, not, ◌&&◌, List, [], length, ap, arith}
use Rattle.std.specs.Prelude.{sum_by}
use Rattle.order.specs.Assoc.{total}
use Rattle.complex.specs.Mask.{bit}
use Rattle.complex.specs.Model.{Model, mask, odd, counts_up, counts_down}
use Rattle.store.specs.Contents.{Contents, Stored, most_simplexes}
use Rattle.store.specs.Walk.{keys}
use Rattle.store.proofs.Walks.{few_counted, all_later, total_by_masks}

one_or_none : (b : Bool) → cond b 1 0 ≤ 1
one_or_none true = omega arith
one_or_none false = omega arith

pub up_few : (p : ℕ) (M : Model) → total (counts_up p) M ≤ length M
up_few p M = few_counted (counts_up p) (λ s m. one_or_none (bit p m && odd (length s))) M

pub down_few : (p : ℕ) (M : Model) → total (counts_down p) M ≤ length M
down_few p M = few_counted (counts_down p) (λ s m. one_or_none (bit p m && not (odd (length s)))) M

-- what is counted up and down for each of these
abbrev pub ups : ℕ → Model → List (List ℕ) → ℕ
ups p M ks = sum_by (λ k. counts_up p k (mask M k)) ks

abbrev pub downs : ℕ → Model → List (List ℕ) → ℕ
downs p M ks = sum_by (λ k. counts_down p k (mask M k)) ks

-- with these left to count, so much is counted
pub record Counting (p : ℕ) (M : Model) (left : List (List ℕ)) (up down : ℕ) : Type 0 where
  pub rising : up + ups p M left ≡ total (counts_up p) M
  pub falling : down + downs p M left ≡ total (counts_down p) M

-- all are left at first
pub counting_first : (p : ℕ) (c : Contents) → Stored c → Counting p c.model (keys c.model) 0 0
counting_first p c stored = record { rising = whole (counts_up p); falling = whole (counts_down p) }
  where
    whole : (w : List ℕ → ℕ → ℕ) → 0 + sum_by (λ k. w k (mask c.model k)) (keys c.model) ≡ total w c.model
    whole w =
        let all = all_later c.range c.model stored.fit in
        omega (arith, total_by_masks w c.model stored.sorted [], ap (total w) all, ap (λ L. sum_by (λ k. w k (mask c.model k)) (keys L)) all)

-- neither count is more than a store can hold
pub counted_few : (p : ℕ) (c : Contents) (left : List (List ℕ)) (up down : ℕ) → Stored c → Counting p c.model left up down → (up ≤ most_simplexes) × (down ≤ most_simplexes)
counted_few p c left up down stored on = (omega (arith, on.rising, up_few p c.model, stored.room, stored.few), omega (arith, on.falling, down_few p c.model, stored.room, stored.few))

-- where none is left, each count is the whole sum
pub all_counted : (p : ℕ) (M : Model) (left : List (List ℕ)) (up down : ℕ) → left ≡ [] → Counting p M left up down → (up ≡ total (counts_up p) M) × (down ≡ total (counts_down p) M)
all_counted p M left up down none on = (omega (arith, on.rising, ap (ups p M) none), omega (arith, on.falling, ap (downs p M) none))
