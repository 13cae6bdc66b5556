-- The lines are those of the script.
use Rattle.script.proofs.Broken.{lines_lined}
use Rattle.script.proofs.lines.Lines.of.Goals as goal

pub returns-clause-law : goal.returns-clause-law
returns-clause-law c = lines_lined c.args.script.now
