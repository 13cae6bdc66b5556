-- A simplex is a strictly rising list of one to four vertices. Its order, its faces, a vertex added.
use Rattle.std.specs.Prelude.{◌≡◌, ℕ, ◌<◌, Bool, true, false, cond, ◌&&◌, ◌||◌, List, [], ◌∷◌, ◌++◌, map, length, ◌==◌, nat_le, nat_lt}
use Rattle.std.specs.declared.cmp.Ordering.TheVariants.{Less, Equal, Greater}
use Rattle.std.specs.declared.cmp.Ordering.{Ordering}
use Rattle.std.specs.Ordering.{is_eq, ordering_then, nat_cmp}
use Rattle.order.specs.Assoc.{by}

-- fewer vertices first; between equal numbers the last vertices decide, then those before them
abbrev pub colex : List ℕ → List ℕ → Ordering
colex [] [] = Equal
colex [] (y ∷ ys) = Less
colex (x ∷ xs) [] = Greater
colex (x ∷ xs) (y ∷ ys) = ordering_then (colex xs ys) (nat_cmp x y)

-- each vertex is below the next
abbrev pub rises : List ℕ → Bool
rises [] = true
rises (x ∷ []) = true
rises (x ∷ (y ∷ ys)) = nat_lt x y && rises (y ∷ ys)

-- one to four vertices in strictly rising order
abbrev pub proper : List ℕ → Bool
proper s = nat_le 1 (length s) && (nat_le (length s) 4 && rises s)

-- every vertex is below n
abbrev pub below : ℕ → List ℕ → Bool
below n [] = true
below n (x ∷ xs) = nat_lt x n && below n xs

-- a is one of the vertices
abbrev pub has : ℕ → List ℕ → Bool
has a [] = false
has a (x ∷ xs) = a == x || has a xs

-- a is below every vertex
abbrev pub Under : ℕ → List ℕ → Type 0
Under a [] = Unit {0}
Under a (x ∷ xs) = (a < x) × Under a xs

-- each vertex is below all that follow
abbrev pub Rising : List ℕ → Type 0
Rising [] = Unit {0}
Rising (x ∷ xs) = Under x xs × Rising xs

-- t is a face of s: a non-empty subset of its vertices
pub record Face (t s : List ℕ) : Type 0 where
  pub some : 0 < length t
  pub rising : Rising t
  pub subset : (a : ℕ) → has a t ≡ true → has a s ≡ true

-- all faces of s, itself among them
abbrev pub faces : List ℕ → List (List ℕ)
faces [] = []
faces (x ∷ xs) = (x ∷ []) ∷ (faces xs ++ map (λ f. x ∷ f) (faces xs))

-- s is one of the list
abbrev pub among : List ℕ → List (List ℕ) → Bool
among s [] = false
among s (f ∷ fs) = is_eq (colex s f) || among s fs

-- a vertex added at its place, once
abbrev pub plus : ℕ → List ℕ → List ℕ
plus a [] = a ∷ []
plus a (x ∷ xs) = by (nat_cmp a x) (a ∷ (x ∷ xs)) (x ∷ xs) (x ∷ plus a xs)

-- a vertex taken away
abbrev pub less : ℕ → List ℕ → List ℕ
less a [] = []
less a (x ∷ xs) = cond (a == x) xs (x ∷ less a xs)
