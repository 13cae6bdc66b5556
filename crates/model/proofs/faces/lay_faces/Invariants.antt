use Rattle.simplex.specs.FacesLeft.{faces_left}
use Rattle.simplex.specs.Simplexes.{vertices}
use Rattle.model.proofs.Facing.{Laying}
use Rattle.model.proofs.faces.lay_faces.Given as goal

abbrev pub invariant-loop-face : goal.invariant-loop-face
invariant-loop-face g l = Laying (vertices l.s) (g.S.Store.contents l.initial.store) (g.S.Store.contents l.store) (faces_left l.face-iterator)
