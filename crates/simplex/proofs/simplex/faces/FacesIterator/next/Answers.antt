-- The face at the place is the first of those to come.
use Rattle.std.proofs.Common.{sym, ap, ◌∙◌}
use Rattle.complex.specs.Simplex.{faces}
use Rattle.simplex.specs.Simplexes.{vertices, found}
use Rattle.simplex.proofs.Places.{drop_from_there}
use Rattle.simplex.proofs.simplex.faces.FacesIterator.next.Goals as goal

pub returns-clause-steps : goal.returns-clause-steps
returns-clause-steps c =
    let s = c.args.self.now in
    drop_from_there (faces (vertices s.simplex)) s.next (vertices c.in_ok-face.face) (sym c.face.ensures ∙ ap found c.in_ok-face.was)
