-- The bytes before and after the cut are the first line and what follows its end.
use Rattle.std.proofs.Common.{◌≤◌, length, sym, ap, ◌∙◌, rules}
use Rattle.script.proofs.Cutting.{past_none, past_some, after_one}
use Rattle.script.proofs.Broken.{lines_lined, taken}
use Rattle.script.proofs.lines.next_line.Goals as goal

pub returns-in-empty : goal.returns-in-empty
returns-in-empty c =
    let back = c.cut.ensures.back in
    let first = taken c.args.script.now _ _ (search rules) c.cut.ensures.front (back ∙ past_none 10 c.args.script.now (sym (ap length back) ∙ search rules)) in
    record { value = first.value; leads = (first.leads, first.shorter); law = lines_lined c.args.script.now }

pub returns-in-len1-up : goal.returns-in-len1-up
returns-in-len1-up c =
    let back = c.cut.ensures.back in
    let some : 1 ≤ length c.cut.result.1.now = search rules in
    let first = taken c.args.script.now _ _ (search rules) c.cut.ensures.front (ap after_one back ∙ past_some 10 c.args.script.now (rw back at some)) in
    record { value = first.value; leads = (first.leads, first.shorter); law = lines_lined c.args.script.now }
