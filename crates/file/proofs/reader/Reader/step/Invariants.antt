-- What is to come stays, and a section begins with each turn.
use Rattle.std.proofs.Common.{◌≡◌, ◌-◌}
use Rattle.file.specs.Entry.{section_count}
use Rattle.file.specs.Reading.{to_come}
use Rattle.file.proofs.reader.Reader.step.Given as goal

abbrev pub invariant-loop-self : goal.invariant-loop-self
invariant-loop-self l = to_come l.initial.self ≡ to_come l.self

abbrev pub decreases-loop-self : goal.decreases-loop-self
decreases-loop-self l = section_count - l.self.section
