-- Where each simplex with vertices below 32 stands in the grid, and which simplex stands at a place.
use Rattle.std.specs.Prelude.{ℕ, zero, suc, ◌+◌, ◌-◌, ◌*◌, ◌/◌, cond, List, [], ◌∷◌, length, nat_le, nat_lt}
use Rattle.complex.specs.Simplex.{below}

-- vertices are below this
abbrev pub vertex_range : ℕ
vertex_range = 32

-- the grid has so many places
abbrev pub places : ℕ
places = 41448

-- what the first, second, third and fourth vertex add to the place
abbrev pub term : ℕ → ℕ → ℕ
term zero x = 1
term (suc zero) x = x
term (suc (suc zero)) x = x * (x - 1) / 2
term (suc (suc (suc zero))) x = x * (x - 1) * (x - 2) / 6
term (suc (suc (suc (suc k)))) x = x * (x - 1) * (x - 2) * (x - 3) / 24

-- the place of the first simplex with so many vertices
abbrev pub first_place : ℕ → ℕ
first_place zero = 0
first_place (suc zero) = 0
first_place (suc (suc zero)) = 32
first_place (suc (suc (suc zero))) = 528
first_place (suc (suc (suc (suc zero)))) = 5488
first_place (suc (suc (suc (suc (suc k))))) = places

-- the sum of the terms, from that of the i-th vertex on
abbrev pub terms : ℕ → List ℕ → ℕ
terms i [] = 0
terms i (x ∷ xs) = term i x + terms (suc i) xs

-- the place of a simplex
abbrev pub place : List ℕ → ℕ
place s = first_place (length s) + terms 1 s

-- the first place that is later than a simplex, whose vertices need not be in range
abbrev pub past : List ℕ → ℕ
past s = cond (below vertex_range s) (place s + 1) (first_place (length s + 1))

-- the number of vertices of the simplex at a place
abbrev pub size_at : ℕ → ℕ
size_at p = cond (nat_lt p 32) 1 (cond (nat_lt p 528) 2 (cond (nat_lt p 5488) 3 4))

-- the largest vertex below n whose k-th term is at most r
unfoldable pub largest : ℕ → ℕ → ℕ → ℕ
largest k r zero = 0
largest k r (suc x) = cond (nat_le (term k x) r) x (largest k r x)

-- k vertices below n with terms that add up to r, the last chosen first, in front of the vertices s
unfoldable pub chosen : ℕ → ℕ → ℕ → List ℕ → List ℕ
chosen zero r n s = s
chosen (suc k) r n s = chosen k (r - term (suc k) (largest (suc k) r n)) (largest (suc k) r n) (largest (suc k) r n ∷ s)

-- the simplex at a place
unfoldable pub simplex_at : ℕ → List ℕ
simplex_at p = chosen (size_at p) (p - first_place (size_at p)) vertex_range []
