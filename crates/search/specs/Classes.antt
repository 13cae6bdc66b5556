-- Nodes gathered into classes by their joins. Throughout, c is the order of the nodes, and J tells which are joined.
use Rattle.std.specs.Prelude.{◌≡◌, ℕ, Bool, true, false, cond, List, [], ◌∷◌, ◌++◌, map, length, drop, Some, None, fold, count_by, filter, Option, nat_le}
use Rattle.std.specs.declared.cmp.Ordering.{Ordering}
use Rattle.std.specs.Ordering.{is_eq, is_lt}
use Rattle.order.specs.Assoc.{by, lookup}
use Rattle.order.specs.Chain.{Chain}
use Rattle.order.specs.declared.record.Record.{Record}
use Rattle.search.specs.Nodes.{Member, own, keys}
use Rattle.search.specs.declared.classes.Classes.{Classes}

-- the label a becomes b
abbrev pub relabelled : {N : Type 0} → (N → N → Ordering) → N → N → Record N N → Record N N
relabelled c a b r = cond (is_eq (c r.value a)) (record { key = r.key; value = b }) r

abbrev pub renamed : {N : Type 0} → (N → N → Ordering) → N → N → List (Record N N) → List (Record N N)
renamed c a b rows = map (relabelled c a b) rows

-- of two labels the greater becomes the lesser
abbrev pub lessened : {N : Type 0} → (N → N → Ordering) → N → N → List (Record N N) → List (Record N N)
lessened c a b rows = by (c a b) (renamed c b a rows) rows (renamed c a b rows)

abbrev pub merged : {N : Type 0} → (N → N → Ordering) → Option N → Option N → List (Record N N) → List (Record N N)
merged c None o rows = rows
merged c (Some a) None rows = rows
merged c (Some a) (Some b) rows = lessened c a b rows

-- the classes of x and y become one
abbrev pub united : {N : Type 0} → (N → N → Ordering) → N → List (Record N N) → N → List (Record N N)
united c x rows y = merged c (lookup c x rows) (lookup c y rows) rows

-- the class of x becomes one with those of the earlier nodes that it is joined with
abbrev pub joined_on : {N : Type 0} → (N → N → Ordering) → (N → N → Bool) → List N → List (Record N N) → N → List (Record N N)
joined_on c J earlier rows x = fold (united c x) rows (filter (J x) earlier)

-- so for each of the nodes that are left, after the earlier ones
abbrev pub gathered_from : {N : Type 0} → (N → N → Ordering) → (N → N → Bool) → List N → List (Record N N) → List N → List (Record N N)
gathered_from c J earlier rows [] = rows
gathered_from c J earlier rows (x ∷ xs) = gathered_from c J (earlier ++ (x ∷ [])) (joined_on c J earlier rows x) xs

-- the nodes in order, each with the least node of its class
abbrev pub gathered : {N : Type 0} → (N → N → Ordering) → (N → N → Bool) → List N → List (Record N N)
gathered c J nodes = gathered_from c J [] (own nodes) nodes

-- a node that is labelled with itself is the least of its class
abbrev pub is_own : {N : Type 0} → (N → N → Ordering) → Record N N → Bool
is_own c r = is_eq (c r.key r.value)

-- how many nodes are the least of their class, which is the number of classes
abbrev pub class_count : {N : Type 0} → (N → N → Ordering) → List (Record N N) → ℕ
class_count c rows = count_by (is_own c) rows

-- so many, if they are no more than there is room for
abbrev pub counted : ℕ → ℕ → Option ℕ
counted room n = cond (nat_le n room) (Some n) None

-- how many nodes and classes there are, if the nodes find room among so many records
abbrev pub search_answer : {N : Type 0} → (N → N → Ordering) → (N → N → Bool) → List N → ℕ → Option Classes
search_answer c J nodes room = cond (nat_le (length nodes) room) (Some (record { nodes = length nodes; classes = class_count c (gathered c J nodes) })) None

-- the first records are the nodes with their labels, the rest is as it was; where there is no room, all is
abbrev pub search_rows : {N : Type 0} → (N → N → Ordering) → (N → N → Bool) → List N → List (Record N N) → List (Record N N)
search_rows c J nodes rows = cond (nat_le (length nodes) (length rows)) (gathered c J nodes ++ drop (length nodes) rows) rows

-- two nodes are joined
abbrev pub Joined : {N : Type 0} → List N → (N → N → Bool) → N → N → Type 0
Joined nodes J x y = Member x nodes × Member y nodes × (J x y ≡ true)

-- they are in one class: a chain of joins leads from one to the other
abbrev pub OneClass : {N : Type 0} → List N → (N → N → Bool) → N → N → Type 0
OneClass nodes J x y = Chain (Joined nodes J) x y

-- the label of a node is the least node of its class
pub record Classed {N : Type 0} (c : N → N → Ordering) (J : N → N → Bool) (nodes : List N) (rows : List (Record N N)) : Type 0 where
  pub listed : keys rows ≡ nodes
  pub labelled : (x : N) → Member x nodes → (l : N) × (lookup c x rows ≡ Some l)
  pub within : (x l : N) → Member x nodes → lookup c x rows ≡ Some l → OneClass nodes J x l
  pub least : (x l y : N) → Member x nodes → lookup c x rows ≡ Some l → OneClass nodes J x y → is_lt (c y l) ≡ false
  -- so two nodes of one class have one label, and the one that is the least of a class is labelled with itself
  pub alike : (x y : N) → Member x nodes → OneClass nodes J x y → lookup c x rows ≡ lookup c y rows
  pub leads : (x : N) → Member x nodes → ((y : N) → OneClass nodes J x y → is_lt (c y x) ≡ false) → lookup c x rows ≡ Some x

-- a search that leaves new of the records old, and answers r
pub record Searches {N : Type 0} (c : N → N → Ordering) (J : N → N → Bool) (nodes : List N) (old new : List (Record N N)) (r : Option Classes) : Type 0 where
  pub value : r ≡ search_answer c J nodes (length old)
  pub after : new ≡ search_rows c J nodes old
  pub classed : Classed c J nodes (gathered c J nodes)
