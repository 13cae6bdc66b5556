-- The bytes of the grid, read as a model: a byte of 0 says that the simplex at its place is absent, any other is its mask.
use Rattle.std.specs.Prelude.{ℕ, suc, cond, ◌&&◌, List, [], ◌∷◌, ◌++◌, length, take, drop, replicate, Some, None, Option, ◌==◌, nat_lt, slice_set}
use Rattle.order.specs.Assoc.{bind}
use Rattle.complex.specs.Model.{Model, present}
use Rattle.complex.specs.Simplex.{below}
use Rattle.store.specs.Contents.{Contents}
use Rattle.grid_store.specs.Places.{places, vertex_range, place, simplex_at}

-- the bytes from the place p on
abbrev pub masks_from : ℕ → List ℕ → Model
masks_from p [] = []
masks_from p (b ∷ bs) = bind (simplex_at p) (present b) (masks_from (suc p) bs)

-- how many simplexes a byte holds
abbrev pub counts : ℕ → ℕ
counts b = cond (b == 0) 0 1

-- the limit of a store over so many bytes
abbrev pub limit_over : ℕ → ℕ
limit_over n = cond (nat_lt n places) 0 places

-- the lent bytes once the grid is emptied
abbrev pub emptied : List ℕ → List ℕ
emptied bs = replicate (limit_over (length bs)) 0 ++ drop (limit_over (length bs)) bs

-- the place of a simplex, if a store with this limit has one for it
abbrev pub placed : ℕ → List ℕ → Option ℕ
placed limit s = cond (nat_lt 0 limit && below vertex_range s) (Some (place s)) None

-- the bytes with another at a place, if there is one
abbrev pub marked : Option ℕ → ℕ → List ℕ → List ℕ
marked None m bs = bs
marked (Some p) m bs = slice_set bs p m

-- the bytes of the grid
abbrev pub grid_of : List ℕ → List ℕ
grid_of bs = take (limit_over (length bs)) bs

-- what a store holds over its bytes
abbrev pub contents_over : List ℕ → Contents
contents_over bs = record { model = masks_from 0 (grid_of bs); limit = limit_over (length bs); range = vertex_range }
