-- A working model is sound when its records are those of collapses that were accepted, one after another, from a legal first model.
use Rattle.std.specs.Prelude.{◌≡◌, ℕ, List, [], ◌∷◌}
use Rattle.complex.specs.Model.{mask, Legal}
use Rattle.collapse.specs.Image.{collapse}
use Rattle.collapse.specs.Laws.{Collapsible}
use Rattle.collapse.specs.Split.{pairs_of}
use Rattle.store.specs.Contents.{Contents, Stored}
use Rattle.trail.specs.Notes.{Note}
use Rattle.history.specs.Past.{undone}

-- the record n is that of an accepted collapse which took the contents d to c
pub record Stands (d c : Contents) (n : Note) : Type 0 where
  pub stored : Stored d
  pub accepted : Collapsible n.u n.v d.model
  pub masks : (q : List ℕ) → mask c.model q ≡ mask (collapse n.u n.v d.model) q
  pub pairs : n.pairs ≡ pairs_of n.u n.v d.model

-- each record stands, back to a legal first model
abbrev pub Sound : Contents → List Note → Type 0
Sound c [] = Legal c.model
Sound c (n ∷ ns) = Stands (undone c n) c n × Sound (undone c n) ns
