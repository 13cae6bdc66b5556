-- The laws above the definitions, in the subject's words.
use Rattle.std.specs.Prelude.{◌≡◌, ℕ, ◌<◌, true, List, ◌∷◌, ◌++◌, length, Some, None, ◌≢◌}
use Rattle.std.specs.declared.cmp.Ordering.TheVariants.{Less}
use Rattle.std.specs.Cmp.{IsTotalOrder}
use Rattle.order.specs.Assoc.{Exact, lookup}
use Rattle.complex.specs.Model.{Model, mask, write, Sorted}
use Rattle.complex.specs.Simplex.{colex, Rising, Face, faces, among}

-- the order of simplexes: fewer vertices come first; between equal numbers the last difference decides; it obeys the laws of an order and tells any two lists apart
pub record OrderAsTold : Type 0 where
  pub fewer : (s t : List ℕ) → length s < length t → colex s t ≡ Less
  pub last : (xs ys zs : List ℕ) (a b : ℕ) → length xs ≡ length ys → a < b → colex (xs ++ (a ∷ zs)) (ys ++ (b ∷ zs)) ≡ Less
  pub lawful : IsTotalOrder colex
  pub exact : Exact colex

-- a write gives one simplex its mask, where 0 removes it, leaves all others, and keeps the order
pub record WriteChangesOne : Type 0 where
  pub there : (M : Model) (s : List ℕ) (m : ℕ) → Sorted M → mask (write M s m) s ≡ m
  pub removed : (M : Model) (s : List ℕ) → Sorted M → lookup colex s (write M s 0) ≡ None
  pub elsewhere : (M : Model) (s q : List ℕ) (m : ℕ) → Sorted M → (q ≢ s) → mask (write M s m) q ≡ mask M q
  pub ordered : (M : Model) (s : List ℕ) (m : ℕ) → Sorted M → Sorted (write M s m)

-- models with the same masks are equal, where no record has the mask 0
abbrev pub MasksTellModels : Type 0
MasksTellModels =
    (M N : Model) → Sorted M → Sorted N → ((q : List ℕ) → lookup colex q M ≢ Some 0) → ((q : List ℕ) → lookup colex q N ≢ Some 0) →
    ((q : List ℕ) → mask M q ≡ mask N q) → M ≡ N

-- the list of faces has the non-empty subsets and nothing else
pub record FacesAreSubsets : Type 0 where
  pub listed : (s t : List ℕ) → Rising s → Face t s → among t (faces s) ≡ true
  pub face : (s t : List ℕ) → Rising s → among t (faces s) ≡ true → Face t s
