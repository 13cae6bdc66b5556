-- The table holds whatever the function does.
use Rattle.collapse.proofs.Worked.{worked_cases}
use Rattle.collapse.proofs.cases.worked_cases_stand.Goals as goal

pub returns : goal.returns
returns c = worked_cases
