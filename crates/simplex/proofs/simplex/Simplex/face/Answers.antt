use Rattle.std.proofs.Common.{sym, ap, ◌∙◌}
use Rattle.std.specs.List.{slice_get}
use Rattle.complex.specs.Simplex.{faces}
use Rattle.simplex.specs.Shapes.{corners}
use Rattle.simplex.proofs.simplex.Simplex.face.Goals as goal

pub returns-in-Tetrahedron : goal.returns-in-Tetrahedron
returns-in-Tetrahedron c = c.tetrahedron_face.ensures ∙ ap (λ s. slice_get (faces (corners s)) c.args.i) (sym c.in-Tetrahedron.is)
