-- Records of simplexes and masks, read as a model.
use Rattle.std.specs.Prelude.{◌≡◌, ℕ, suc, ◌&&◌, List, [], ◌∷◌, length, refl}
use Rattle.std.proofs.Common.{ap, ap₂}
use Rattle.std.specs.Ordering.{is_lt}
use Rattle.order.specs.declared.record.Record.{Record}
use Rattle.order.specs.Assoc.{before, rising}
use Rattle.complex.specs.Model.{Model}
use Rattle.complex.specs.Simplex.{colex}
use Rattle.simplex.specs.declared.simplex.Simplex.{Simplex}
use Rattle.simplex.specs.Simplexes.{vertices, by_vertices}

-- each record with its key's vertices
abbrev pub entries : List (Record Simplex ℕ) → Model
entries [] = []
entries (r ∷ rs) = record { key = vertices r.key; value = r.value } ∷ entries rs

-- there is an entry for each record
pub length_entries : (rows : List (Record Simplex ℕ)) → length (entries rows) ≡ length rows
length_entries [] = refl
length_entries (r ∷ rs) = ap suc (length_entries rs)

before_entries : (k : Simplex) (rows : List (Record Simplex ℕ)) → before colex (vertices k) (entries rows) ≡ before by_vertices k rows
before_entries k [] = refl
before_entries k (r ∷ rs) = ap (λ b. is_lt (by_vertices k r.key) && b) (before_entries k rs)

-- the entries rise where the records do
pub rising_entries : (rows : List (Record Simplex ℕ)) → rising colex (entries rows) ≡ rising by_vertices rows
rising_entries [] = refl
rising_entries (r ∷ rs) = ap₂ ◌&&◌ (before_entries r.key rs) (rising_entries rs)
