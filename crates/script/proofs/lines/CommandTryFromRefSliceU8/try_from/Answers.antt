-- What the letter gives is the command of the line, so the law holds of it.
use Rattle.std.proofs.Common.{sym, ap, ◌∙◌, rules}
use Rattle.script.specs.Line.{letter_command}
use Rattle.script.proofs.Cutting.{after_one}
use Rattle.script.proofs.Numerals.{command_by_letter, read_where_said}
use Rattle.script.proofs.lines.CommandTryFromRefSliceU8.try_from.Goals as goal

pub returns-in-len1-up : goal.returns-in-len1-up
returns-in-len1-up c =
    let same = sym c.ok_or.ensures.ok_part ∙ c.letter_command.ensures ∙ ap (λ l. letter_command l (after_one c.args.line.now)) c.from.ensures ∙ command_by_letter c.args.line.now (search rules) c.if-rest-lt-LINE_LIMIT.true in
    record { value = same; law = read_where_said c.args.line.now _ same }
