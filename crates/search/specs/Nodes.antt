-- Nodes in their order, and walks over them. Throughout, c is the order of the nodes.
use Rattle.std.specs.Prelude.{◌≡◌, ℕ, ◌+◌, ◌<◌, ◌≤◌, Bool, true, ◌⊎◌, List, [], ◌∷◌, ◌++◌, map, drop, Some, None, filter, Option, slice_index_or}
use Rattle.std.specs.declared.cmp.Ordering.{Ordering}
use Rattle.order.specs.Assoc.{rising, later}
pub use Rattle.order.specs.Assoc.{keys}
use Rattle.order.specs.declared.record.Record.{Record}

-- x is one of the list
abbrev pub Member : {N : Type 0} → N → List N → Type 0
Member x [] = ⊥
Member x (y ∷ ys) = (x ≡ y) ⊎ Member x ys

-- each node labelled with itself
abbrev pub own : {N : Type 0} → List N → List (Record N N)
own nodes = map (λ x. record { key = x; value = x }) nodes

-- each node is less than those after it
abbrev pub Ordered : {N : Type 0} → (N → N → Ordering) → List N → Type 0
Ordered c nodes = rising c (own nodes) ≡ true

-- all records, or those after a node
abbrev pub left : {N : Type 0} → (N → N → Ordering) → Option N → List (Record N N) → List (Record N N)
left c None rows = rows
left c (Some a) rows = later c a rows

-- nothing, or one of the nodes
abbrev pub Amid : {N : Type 0} → List N → Option N → Type 0
Amid nodes None = Unit {0}
Amid nodes (Some a) = Member a nodes

-- the keys of the records stand in order, and x comes after them
abbrev pub Leads : {N : Type 0} → (N → N → Ordering) → List (Record N N) → N → Type 0
Leads c rows x = Ordered c (keys rows ++ (x ∷ []))

-- the keys from a place on that are joined
abbrev pub joined_from : {N : Type 0} → (N → Bool) → ℕ → List (Record N N) → List N
joined_from J from rows = filter J (drop from (keys rows))

-- no place, or one from a place on and before another
abbrev pub Between : ℕ → ℕ → Option ℕ → Type 0
Between from to None = Unit {0}
Between from to (Some j) = (from ≤ j) × (j < to)

-- the place of the first that is joined
abbrev pub NextJoined : {N : Type 0} → (N → Bool) → List (Record N N) → ℕ → Option ℕ → Type 0
NextJoined J rows from None = joined_from J from rows ≡ []
NextJoined J rows from (Some j) = (d : Record _ _) → joined_from J from rows ≡ (slice_index_or rows j d).key ∷ joined_from J (j + 1) rows
