-- Four vertices at most have fifteen faces at most.
use Rattle.std.proofs.Common.{arith}
use Rattle.simplex.proofs.Corners.{vertices_few_faces}
use Rattle.simplex.proofs.simplex.Simplex.faces.Goals as goal

pub returns-clause-few : goal.returns-clause-few
returns-clause-few c = omega (arith, vertices_few_faces c.args.self.now)
