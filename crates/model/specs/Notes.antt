-- The bases of a collapse, found by two walks over the model before it.
use Rattle.std.specs.Prelude.{ℕ, cond, List, [], ◌∷◌, length, Some, None, Ok, Err, Option, Result}
use Rattle.std.specs.Ordering.{is_eq}
use Rattle.order.specs.Assoc.{by, later}
use Rattle.complex.specs.Model.{Model}
use Rattle.complex.specs.Simplex.{colex, has}
use Rattle.collapse.specs.Image.{less}
use Rattle.collapse.specs.Split.{bases, pairs_of}
use Rattle.trail.specs.Notes.{Note, has_room}
use Rattle.trail.specs.declared.refusal.TrailFull.{TrailFull}

-- the records of the simplexes without v
abbrev pub lacking : ℕ → Model → Model
lacking v [] = []
lacking v (r ∷ rs) = cond (has v r.key) (lacking v rs) (r ∷ lacking v rs)

-- the s for which s + u is held, where s is without v, in order
abbrev pub bases_without : ℕ → ℕ → Model → List (List ℕ)
bases_without u v M = bases u (lacking v M)

-- a list put at its place among lists in order, once
abbrev pub insert : List ℕ → List (List ℕ) → List (List ℕ)
insert x [] = x ∷ []
insert x (y ∷ ys) = by (colex x y) (x ∷ (y ∷ ys)) (y ∷ ys) (y ∷ insert x ys)

-- the members of both, in order, each once
abbrev pub merged_lists : List (List ℕ) → List (List ℕ) → List (List ℕ)
merged_lists [] ys = ys
merged_lists (x ∷ xs) ys = insert x (merged_lists xs ys)

-- the bases from this simplex on, which has u and has not v; none where there is no such simplex
abbrev pub ahead : ℕ → ℕ → Model → Option (List ℕ) → List (List ℕ)
ahead u v M None = []
ahead u v M (Some s) = less u s ∷ bases_without u v (later colex s M)

-- the first of these
abbrev pub head : List (List ℕ) → Option (List ℕ)
head [] = None
head (x ∷ xs) = Some x

-- these without q, if it stands first
abbrev pub past_base : List ℕ → List (List ℕ) → List (List ℕ)
past_base q [] = []
past_base q (x ∷ xs) = cond (is_eq (colex x q)) xs (x ∷ xs)

-- the lesser of two lists, either of which may be absent
abbrev pub lesser : Option (List ℕ) → Option (List ℕ) → Option (List ℕ)
lesser None o = o
lesser (Some x) None = Some x
lesser (Some x) (Some y) = Some (by (colex x y) x x y)

-- how many pairs the record of a collapse has, if it fits behind these notes
abbrev pub note_answer : ℕ → ℕ → Model → List Note → Result ℕ TrailFull
note_answer u v M ns = cond (has_room ns (length (pairs_of u v M))) (Ok (length (pairs_of u v M))) (Err (record {}))
