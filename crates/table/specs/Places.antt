-- Where a key stands among records in rising order. Throughout, c is the order of the keys.
use Rattle.std.specs.Prelude.{◌≡◌, ℕ, zero, suc, ◌<◌, ◌≤◌, true, false, List, [], ◌∷◌, length, is_some, Ok, Err, Result}
use Rattle.std.specs.declared.cmp.Ordering.{Ordering}
use Rattle.order.specs.declared.record.Record.{Record}
use Rattle.order.specs.Assoc.{by, rising, lookup}

-- how many records at the front have keys less than k
abbrev pub below : {K V : Type 0} → (K → K → Ordering) → K → List (Record K V) → ℕ
below c k [] = zero
below c k (r ∷ rs) = by (c r.key k) (suc (below c k rs)) zero zero

-- what a search for k answers: the place where it stands, or as an error the place where it would stand
abbrev pub Sought : {K V : Type 0} → (K → K → Ordering) → K → List (Record K V) → Result ℕ ℕ → Type 0
Sought c k rows (Ok at) = (at < length rows) × (rising c rows ≡ true → (at ≡ below c k rows) × (is_some (lookup c k rows) ≡ true))
Sought c k rows (Err at) = (at ≤ length rows) × (rising c rows ≡ true → (at ≡ below c k rows) × (is_some (lookup c k rows) ≡ false))
