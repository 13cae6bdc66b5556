-- What collapses do to the pieces of a part.
use Rattle.std.specs.Prelude.{◌≡◌, ℕ, List, [], ◌∷◌}
use Rattle.complex.specs.Model.{Model, In, Legal}
use Rattle.complex.specs.Simplex.{plus}
use Rattle.collapse.specs.Laws.{Shaped}
use Rattle.collapse.specs.Image.{Collapsed, moved}
use Rattle.collapse.specs.Pieces.{OnePiece}
use Rattle.collapse.specs.Standing.{traced}

-- v is merged into u, and where part p has both vertices it has their edge
pub record Step (p u v : ℕ) (M N : Model) : Type 0 where
  pub legal : Legal M
  pub shaped : Shaped M
  pub apart : u ≡ v → ⊥
  pub linked : In p M (u ∷ []) → In p M (v ∷ []) → In p M (plus u (v ∷ []))
  pub collapsed : Collapsed u v M N

-- N comes from M by collapses at the pairs in order
pub data Run (p : ℕ) : Model → List (ℕ × ℕ) → Model → Type 0 where
  none : {M : Model} → Run p M [] M
  more : {M L N : Model} {u v : ℕ} {ks : List (ℕ × ℕ)} → Step p u v M L → Run p L ks N → Run p M ((u, v) ∷ ks) N

-- f takes the vertices of part p in M to those in N, all of them, and two lie in one piece afterwards exactly when they did before
pub record SamePieces (p : ℕ) (M N : Model) (f : ℕ → ℕ) : Type 0 where
  pub vertex : (x : ℕ) → In p M (x ∷ []) → In p N (f x ∷ [])
  pub all : (y : ℕ) → In p N (y ∷ []) → (x : ℕ) × In p M (x ∷ []) × (f x ≡ y)
  pub forward : (x y : ℕ) → In p M (x ∷ []) → In p M (y ∷ []) → OnePiece p M x y → OnePiece p N (f x) (f y)
  pub back : (x y : ℕ) → In p M (x ∷ []) → In p M (y ∷ []) → OnePiece p N (f x) (f y) → OnePiece p M x y

-- a collapse keeps the pieces of each part
abbrev pub CollapseKeepsPieces : Type 0
CollapseKeepsPieces = (p u v : ℕ) (M N : Model) → Step p u v M N → SamePieces p M N (moved u v)

-- where vertices go along a list of collapses keeps the pieces of each part
abbrev pub TracesKeepPieces : Type 0
TracesKeepPieces = (p : ℕ) (M N : Model) (ks : List (ℕ × ℕ)) → Run p M ks N → SamePieces p M N (traced ks)
