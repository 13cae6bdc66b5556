-- Where all faces are held at first, marking those that are left leads to marking all.
use Rattle.std.proofs.Common.{ℕ, ◌<◌, List}
use Rattle.complex.specs.Model.{mask}
use Rattle.complex.specs.Simplex.{Face}
use Rattle.simplex.specs.FacesLeft.{faces_left}
use Rattle.simplex.specs.Simplexes.{vertices}
use Rattle.model.proofs.Facing.{Marking}
use Rattle.model.proofs.faces.mark_faces.Given as goal

abbrev pub invariant-loop-face : goal.invariant-loop-face
invariant-loop-face g l =
    ((q : List ℕ) → Face q (vertices l.s) → 0 < mask (g.S.Store.contents l.initial.store).model q) →
    Marking l.part.number (vertices l.s) (g.S.Store.contents l.initial.store) (g.S.Store.contents l.store) (faces_left l.face-iterator)
