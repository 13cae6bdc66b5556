-- The elements before the place, the new one, and those that were moved up.
use Rattle.std.proofs.Common.{set, ap, ◌∙◌}
use Rattle.table.proofs.Shifts.{moved_up}
use Rattle.table.proofs.shift.insert_at.Goals as goal

pub returns : goal.returns
returns g c = ap (λ l. set l c.args.at c.args.x) c.copy_within.ensures.after ∙ moved_up c.args.rows.now c.args.at c.args.x c.requires
