-- Merging the vertex v into the vertex u: the image rule.
use Rattle.std.specs.Prelude.{◌≡◌, ℕ, cond, List, [], fold, ◌==◌, bit_or}
use Rattle.order.specs.declared.record.Record.{Record}
use Rattle.complex.specs.Model.{Model, mask, write, Sorted, In}
use Rattle.complex.specs.Simplex.{has, plus}
pub use Rattle.complex.specs.Simplex.{less}

-- v replaced by u, a repeated vertex written once
abbrev pub image : ℕ → ℕ → List ℕ → List ℕ
image u v s = cond (has v s) (plus u (less v s)) s

-- one held simplex goes to its image, which gets its bits
abbrev pub image_one : ℕ → ℕ → Model → Record (List ℕ) ℕ → Model
image_one u v N r = write N (image u v r.key) (bit_or (mask N (image u v r.key)) r.value)

-- every held simplex goes to its image
abbrev pub collapse : ℕ → ℕ → Model → Model
collapse u v M = fold (image_one u v) [] M

-- N is M with v merged into u: a part holds a simplex exactly when it is the image of one that it held
pub record Collapsed (u v : ℕ) (M N : Model) : Type 0 where
  pub sorted : Sorted N
  pub comes : (p : ℕ) (t : List ℕ) → In p N t → (s : List ℕ) × In p M s × (image u v s ≡ t)
  pub goes : (p : ℕ) (s : List ℕ) → In p M s → In p N (image u v s)

-- where a vertex goes
abbrev pub moved : ℕ → ℕ → ℕ → ℕ
moved u v x = cond (x == v) u x
