-- What holds of a working model at every moment, against its first model and the standing list.
use Rattle.std.specs.Prelude.{◌≡◌, ℕ, ◌<◌, List}
use Rattle.complex.specs.Model.{Legal, euler}
use Rattle.collapse.specs.PieceLaws.{SamePieces}
use Rattle.collapse.specs.Standing.{made_by, traced}
use Rattle.store.specs.Contents.{Contents}
use Rattle.trail.specs.Notes.{Note}
use Rattle.history.specs.Past.{first, standing}

pub record Promise (c : Contents) (ns : List Note) : Type 0 where
  -- the model is legal
  pub legal : Legal c.model
  -- body and parts have the Euler numbers they had in the first model
  pub euler : (p : ℕ) → p < 8 → euler p c.model ≡ euler p (first c ns)
  -- each vertex of the body or a part traces to one of it now, and two lay in one piece then exactly when their traces do now
  pub pieces : (p : ℕ) → p < 8 → SamePieces p (first c ns) c.model (traced (standing ns))
  -- the model is the one made from the first by the standing collapses alone, in order
  pub made : c.model ≡ made_by (first c ns) (standing ns)
