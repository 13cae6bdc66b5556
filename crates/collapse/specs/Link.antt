-- The link condition of an edge, for the body and each part.
use Rattle.std.specs.Prelude.{◌≡◌, ℕ, ◌<◌, false, List}
use Rattle.std.specs.declared.cmp.Ordering.TheVariants.{Less}
use Rattle.complex.specs.Model.{Model, In}
use Rattle.complex.specs.Simplex.{colex, has, plus, Rising}

-- s is without u and v; it may be empty
pub record Base (u v : ℕ) (s : List ℕ) : Type 0 where
  pub rising : Rising s
  pub no_u : has u s ≡ false
  pub no_v : has v s ≡ false

-- the link condition for part p: where s + u and s + v are in it, so is s + u + v
abbrev pub Link : ℕ → ℕ → ℕ → Model → Type 0
Link p u v M = (s : List ℕ) → Base u v s → In p M (plus u s) → In p M (plus v s) → In p M (plus u (plus v s))

-- s shows that the link condition fails for part p
pub record Fails (p u v : ℕ) (M : Model) (s : List ℕ) : Type 0 where
  pub base : Base u v s
  pub with_u : In p M (plus u s)
  pub with_v : In p M (plus v s)
  pub without : In p M (plus u (plus v s)) → ⊥

-- p is the smallest part for which the condition fails, and s the first in the order that shows it
pub record Tied (p u v : ℕ) (M : Model) (s : List ℕ) : Type 0 where
  pub fails : Fails p u v M s
  pub smallest : (q : ℕ) → q < p → Link q u v M
  pub first : (t : List ℕ) → colex t s ≡ Less → Fails p u v M t → ⊥

-- the condition holds for the body and all parts
abbrev pub Untied : ℕ → ℕ → Model → Type 0
Untied u v M = (p : ℕ) → p < 8 → Link p u v M
