-- The body extended by one dummy vertex for each part: the cone from it over that part.
use Rattle.std.specs.Prelude.{◌≡◌, ℕ, ◌<◌, ◌≤◌, false, ◌⊎◌, List, [], ◌∷◌, ◌≢◌}
use Rattle.complex.specs.Model.{Model, mask, In, Legal}
use Rattle.complex.specs.Simplex.{has, plus}
use Rattle.collapse.specs.Link.{Untied}
use Rattle.collapse.specs.Laws.{Shaped}

-- vertices of the body, alone or with the dummy of part p
pub data Extended : Type 0 where
  plain : List ℕ → Extended
  cone : ℕ → List ℕ → Extended

-- the vertices other than the dummy
abbrev pub vertices : Extended → List ℕ
vertices (plain s) = s
vertices (cone p s) = s

-- a vertex of the body added
abbrev pub added : ℕ → Extended → Extended
added x (plain s) = plain (plus x s)
added x (cone p s) = cone p (plus x s)

-- the extension has the simplexes of the body, each dummy alone, and each dummy with the simplexes of its part;
-- the parts from `low` on have a dummy: all eight where it is 0, all but the body where it is 1
abbrev pub Extension : ℕ → Model → Extended → Type 0
Extension low M (plain s) = In 0 M s
Extension low M (cone p s) = (low ≤ p) × (p < 8) × ((s ≡ []) ⊎ In p M s)

-- t is in the link of the vertex x
pub record VertexLink (low : ℕ) (M : Model) (x : ℕ) (t : Extended) : Type 0 where
  pub there : Extension low M t
  pub without : has x (vertices t) ≡ false
  pub with_it : Extension low M (added x t)

-- t is in the link of the edge u v
pub record EdgeLink (low : ℕ) (M : Model) (u v : ℕ) (t : Extended) : Type 0 where
  pub there : Extension low M t
  pub without_u : has u (vertices t) ≡ false
  pub without_v : has v (vertices t) ≡ false
  pub with_both : Extension low M (added u (added v t))

-- what the links of both vertices share is the link of the edge
pub record LinksMeet (low : ℕ) (M : Model) (u v : ℕ) : Type 0 where
  pub in_edge : (t : Extended) → VertexLink low M u t → VertexLink low M v t → EdgeLink low M u v t
  pub in_u : (t : Extended) → EdgeLink low M u v t → VertexLink low M u t
  pub in_v : (t : Extended) → EdgeLink low M u v t → VertexLink low M v t

-- with the edge held, the link conditions of the body and all parts together are the one condition in the extension
abbrev pub ExtendedLink : Type 0
ExtendedLink = (low u v : ℕ) (M : Model) → low ≤ 1 → Legal M → Shaped M → (u ≢ v) → 0 < mask M (plus u (v ∷ [])) →
    (LinksMeet low M u v → Untied u v M) × (Untied u v M → LinksMeet low M u v)
