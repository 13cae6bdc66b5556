-- What is written and what is left to write.
use Rattle.std.proofs.Common.{◌≡◌, ◌++◌, string_bytes}
use Rattle.script.specs.Lines.{lines}
use Rattle.script.specs.Transcript.{answer_of, replies}
use Rattle.script.proofs.run.push_replies.Given as goal

-- what was written, and what is still to be written, give all replies after the text at the start
abbrev pub invariant-loop-line : goal.invariant-loop-line
invariant-loop-line g l =
    string_bytes l.text ++ replies (answer_of (g.S.Store.contents l.working.store)) l.line-iterator ≡ string_bytes l.initial.text ++ replies (answer_of (g.S.Store.contents l.working.store)) (lines l.script)
