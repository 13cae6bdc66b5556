-- What the program prints for a file and a script.
use Rattle.std.specs.Prelude.{ℕ, List, [], ◌∷◌, ◌++◌, ℤ, Some, None, Ok, Err, Option, Result}
use Rattle.store.specs.Contents.{Contents}
use Rattle.model.specs.Calls.{euler_answer}
use Rattle.model.specs.declared.refusal.ModelRefusal.{ModelRefusal}
use Rattle.file.specs.Load.{load_answer, load_next}
use Rattle.file.specs.declared.refusal.FileRefusal.{FileRefusal}
use Rattle.script.specs.declared.answers.Reply.TheVariants.{Loaded, Euler}
use Rattle.script.specs.declared.lines.Command.{Command}
use Rattle.script.specs.declared.lines.Command.TheVariants.{Euler as AskEuler}
use Rattle.script.specs.declared.refusal.ScriptRefusal.TheVariants.{Line, Model, Load}
use Rattle.script.specs.Line.{command_of}
use Rattle.script.specs.Lines.{lines}
use Rattle.script.specs.Text.{Answer, line_of}

-- the answer to each line, in order, where f gives the answers
abbrev pub replies : (List ℕ → Answer) → List (List ℕ) → List ℕ
replies f [] = []
replies f (l ∷ ls) = line_of (f l) ++ replies f ls

-- an answer with a number, or a refusal of the model
abbrev pub number_or_refusal : Result ℤ ModelRefusal → Answer
number_or_refusal (Ok value) = Ok (Euler value)
number_or_refusal (Err e) = Err (Model e)

-- what a working model of these contents answers to a command, or to an unreadable line
abbrev pub command_answer : Contents → Option Command → Answer
command_answer c None = Err Line
command_answer c (Some (AskEuler p)) = number_or_refusal (euler_answer c p)

-- the answer to a line
abbrev pub answer_of : Contents → List ℕ → Answer
answer_of c line = command_answer c (command_of line)

-- a refused load is answered and ends the run; else the lines of the script are answered on what was loaded
abbrev pub run_on : Result ℕ FileRefusal → Contents → List ℕ → List ℕ
run_on (Ok held) c script = line_of (Ok (Loaded held)) ++ replies (answer_of c) (lines script)
run_on (Err e) c script = line_of (Err (Load e))

-- what is printed over an empty draft of these contents
abbrev pub transcript_from : Contents → List ℕ → List ℕ → List ℕ
transcript_from c file script = run_on (load_answer c file) (load_next c file) script

-- the program's store: 4,000 records over the vertices below 4,096, empty at first
abbrev pub program_records : ℕ
program_records = 4000

abbrev pub empty_store : Contents
empty_store = record { model = []; limit = program_records; range = 4096 }

-- all that the program prints
abbrev pub transcript_of : List ℕ → List ℕ → List ℕ
transcript_of file script = transcript_from empty_store file script
