-- How an answer is written.
use Rattle.std.specs.Prelude.{ℕ, List, [], ◌∷◌, ◌++◌, Ok, Err, Result, codes, decimal}
use Rattle.std.specs.Fmt.{signed_decimal}
use Rattle.model.specs.Calls.{model_number}
use Rattle.file.specs.Load.{cause_number, file_number}
use Rattle.file.specs.declared.refusal.FileRefusal.TheVariants.{Occupied, At}
use Rattle.script.specs.declared.answers.Reply.{Reply}
use Rattle.script.specs.declared.answers.Reply.TheVariants.{Loaded, Euler}
use Rattle.script.specs.declared.refusal.ScriptRefusal.{ScriptRefusal}
use Rattle.script.specs.declared.refusal.ScriptRefusal.TheVariants.{Line, Model, Load}

-- the number of a refusal
abbrev pub script_number : ScriptRefusal → ℕ
script_number Line = 8
script_number (Model e) = model_number e
script_number (Load e) = file_number e

-- a load that stopped in the file names number, section, entry and place; any other refusal its number alone
abbrev pub refusal_text : ScriptRefusal → List ℕ
refusal_text Line = codes "no " ++ decimal 8
refusal_text (Model e) = codes "no " ++ decimal (model_number e)
refusal_text (Load Occupied) = codes "no " ++ decimal 29
refusal_text (Load (At s)) = codes "no " ++ (decimal (cause_number s.cause) ++ (codes " " ++ (decimal s.site.section ++ (codes " " ++ (decimal s.site.entry ++ (codes " " ++ decimal s.site.place))))))

-- the text of a reply: a word and a number, a space before it
abbrev pub reply_text : Reply → List ℕ
reply_text (Loaded held) = codes "loaded " ++ decimal held
reply_text (Euler value) = codes "ok " ++ signed_decimal value

-- an answer: a reply or a refusal
abbrev pub Answer : Type 0
Answer = Result Reply ScriptRefusal

-- the text of an answer
abbrev pub text_of : Answer → List ℕ
text_of (Ok reply) = reply_text reply
text_of (Err e) = refusal_text e

-- the text of an answer, and byte 10 after it
abbrev pub line_of : Answer → List ℕ
line_of answer = text_of answer ++ (10 ∷ [])
