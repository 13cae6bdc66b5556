-- The laws of collapse and split.
use Rattle.std.specs.Prelude.{◌≡◌, ℕ, ◌<◌, ◌≤◌, cond, List, [], ◌∷◌, length, Some, ◌≢◌, bit_and, bit_or}
use Rattle.order.specs.Assoc.{lookup}
use Rattle.complex.specs.Model.{Model, mask, Sorted, Legal, euler}
use Rattle.complex.specs.Simplex.{colex, has, plus, Rising}
use Rattle.collapse.specs.Image.{less, collapse, Collapsed}
use Rattle.collapse.specs.Link.{Base, Link, Untied}
use Rattle.collapse.specs.Split.{pairs_of, split}
use Rattle.collapse.specs.Standing.{made_by}

-- no record has the mask 0
abbrev pub Positive : Model → Type 0
Positive M = (s : List ℕ) → lookup colex s M ≢ Some 0

-- every held simplex has one to four vertices, in rising order
abbrev pub Shaped : Model → Type 0
Shaped M = (s : List ℕ) → 0 < mask M s → Rising s × (0 < length s) × (length s ≤ 4)

-- every mask has eight bits
abbrev pub Narrow : Model → Type 0
Narrow M = (s : List ℕ) → mask M s < 256

-- what a working model is at all times
pub record Sound (M : Model) : Type 0 where
  pub sorted : Sorted M
  pub positive : Positive M
  pub shaped : Shaped M
  pub narrow : Narrow M
  pub legal : Legal M

-- the masks after v is merged into u, as a function of those before
abbrev pub merged : ℕ → ℕ → Model → List ℕ → ℕ
merged u v M t = cond (has v t) 0 (cond (has u t) (bit_or (mask M t) (mask M (plus v (less u t)))) (mask M t))

-- N has these masks at rising lists, and holds no other
pub record Merged (u v : ℕ) (M N : Model) : Type 0 where
  pub rising : (t : List ℕ) → Rising t → mask N t ≡ merged u v M t
  pub other : (t : List ℕ) → (Rising t → ⊥) → mask N t ≡ 0

-- the collapse follows the image rule
abbrev pub ImageRule : Type 0
ImageRule = (u v : ℕ) (M : Model) → Sorted M → Collapsed u v M (collapse u v M)

-- the image rule leaves no choice
abbrev pub ImageUnique : Type 0
ImageUnique = (u v : ℕ) (M N L : Model) → Positive N → Positive L → Collapsed u v M N → Collapsed u v M L → N ≡ L

-- which masks the simplexes have after a collapse
abbrev pub ImageMasks : Type 0
ImageMasks = (u v : ℕ) (M : Model) → (u ≢ v) → Sorted M → Shaped M → Legal M → Merged u v M (collapse u v M)

-- a collapse keeps a model legal, with simplexes of one to four vertices
abbrev pub CollapseKeepsLegal : Type 0
CollapseKeepsLegal = (u v : ℕ) (M : Model) → (u ≢ v) → Sorted M → Shaped M → Legal M → Legal (collapse u v M) × Shaped (collapse u v M)

-- at every s, s + u + v has the bits that s + u and s + v have in common
abbrev pub Exact : ℕ → ℕ → Model → Type 0
Exact u v M = (s : List ℕ) → Base u v s → mask M (plus u (plus v s)) ≡ bit_and (mask M (plus u s)) (mask M (plus v s))

-- in a legal model the link condition of the body and all parts is one equation of masks
abbrev pub UntiedIsExact : Type 0
UntiedIsExact = (u v : ℕ) (M : Model) → Legal M → Narrow M → (Untied u v M → Exact u v M) × (Exact u v M → Untied u v M)

-- a collapse that the link condition of a part allows keeps that part's Euler number
abbrev pub CollapseKeepsEuler : Type 0
CollapseKeepsEuler = (p u v : ℕ) (M : Model) → (u ≢ v) → Sorted M → Shaped M → Legal M → Link p u v M → euler p (collapse u v M) ≡ euler p M

-- the split by a collapse's record takes the collapse back
abbrev pub SplitInverts : Type 0
SplitInverts = (u v : ℕ) (M : Model) → (u ≢ v) → Sound M → Untied u v M → split u v (collapse u v M) (pairs_of u v M) ≡ M

-- v may be merged into u: they are two, their edge is held, and the link condition holds for the body and all parts
pub record Collapsible (u v : ℕ) (M : Model) : Type 0 where
  pub distinct : u ≡ v → ⊥
  pub edge : 0 < mask M (plus u (v ∷ []))
  pub untied : Untied u v M

-- each pair of the list is collapsible in the model made by those before it
abbrev pub Accepted : Model → List (ℕ × ℕ) → Type 0
Accepted M [] = Unit {0}
Accepted M (k ∷ ks) = Collapsible k.0 k.1 M × Accepted (collapse k.0 k.1 M) ks

-- a list of accepted collapses makes a sound model with the Euler numbers of the first
abbrev pub MadeKeeps : Type 0
MadeKeeps = (M : Model) (ks : List (ℕ × ℕ)) → Sound M → Accepted M ks → Sound (made_by M ks) × ((p : ℕ) → p < 8 → euler p (made_by M ks) ≡ euler p M)
