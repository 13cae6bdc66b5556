-- Records in rising order of their keys, read as a map from keys to values. Throughout, c is the order of the keys.
--     rising c rows      each key is less than those after it
--     lookup c k rows    the value at k, if there is one
--     put c k o rows     k has the value o, or none where o is None; every other key is as before
--     later c k rows     the records whose keys are greater than k
--     next c k rows      the least key greater than k, if there is one
use Rattle.std.specs.Prelude.{◌≡◌, ℕ, zero, ◌+◌, Bool, true, ◌&&◌, List, [], ◌∷◌, map, Some, None, Option}
use Rattle.std.specs.declared.cmp.Ordering.TheVariants.{Less, Equal, Greater}
use Rattle.std.specs.declared.cmp.Ordering.{Ordering}
use Rattle.std.specs.Ordering.{is_lt, ordering_reverse}
use Rattle.order.specs.declared.record.Record.{Record}

-- what the answer of a comparison chooses
abbrev pub by : {X : Type 0} → Ordering → X → X → X → X
by Less x y z = x
by Equal x y z = y
by Greater x y z = z

-- keys that the order calls the same are equal
abbrev pub Exact : {K : Type 0} → (K → K → Ordering) → Type 0
Exact {K} c = (x y : K) → c x y ≡ Equal → x ≡ y

-- k is less than every key
abbrev pub before : {K V : Type 0} → (K → K → Ordering) → K → List (Record K V) → Bool
before c k [] = true
before c k (r ∷ rs) = is_lt (c k r.key) && before c k rs

abbrev pub rising : {K V : Type 0} → (K → K → Ordering) → List (Record K V) → Bool
rising c [] = true
rising c (r ∷ rs) = before c r.key rs && rising c rs

abbrev pub lookup : {K V : Type 0} → (K → K → Ordering) → K → List (Record K V) → Option V
lookup c k [] = None
lookup c k (r ∷ rs) = by (c r.key k) (lookup c k rs) (Some r.value) None

-- a record for k in front, if there is a value
abbrev pub bind : {K V : Type 0} → K → Option V → List (Record K V) → List (Record K V)
bind k None rows = rows
bind k (Some v) rows = record { key = k; value = v } ∷ rows

abbrev pub put : {K V : Type 0} → (K → K → Ordering) → K → Option V → List (Record K V) → List (Record K V)
put c k o [] = bind k o []
put c k o (r ∷ rs) = by (c r.key k) (r ∷ put c k o rs) (bind k o rs) (bind k o (r ∷ rs))

abbrev pub later : {K V : Type 0} → (K → K → Ordering) → K → List (Record K V) → List (Record K V)
later c k [] = []
later c k (r ∷ rs) = by (c r.key k) (later c k rs) rs (r ∷ rs)

abbrev pub keys : {K V : Type 0} → List (Record K V) → List K
keys rows = map (λ r. r.key) rows

abbrev pub first : {K V : Type 0} → List (Record K V) → Option K
first [] = None
first (r ∷ rs) = Some r.key

abbrev pub next : {K V : Type 0} → (K → K → Ordering) → K → List (Record K V) → Option K
next c k rows = first (later c k rows)

-- a sum over the records
abbrev pub total : {K V : Type 0} → (K → V → ℕ) → List (Record K V) → ℕ
total w [] = zero
total w (r ∷ rs) = w r.key r.value + total w rs

-- what a key adds to a sum, where it may have no value
abbrev pub weigh : {K V : Type 0} → (K → V → ℕ) → K → Option V → ℕ
weigh w k None = zero
weigh w k (Some v) = w k v
