-- What a line of a script says.
use Rattle.std.specs.Prelude.{◌≡◌, ℕ, ◌+◌, ◌-◌, ◌*◌, ◌<◌, ◌≤◌, Bool, true, cond, ◌&&◌, List, [], ◌∷◌, ◌++◌, length, Some, None, Option, ◌==◌, ◌↔◌, nat_le, nat_lt}
use Rattle.std.specs.Option.{option_map}
use Rattle.script.specs.declared.lines.Command.{Command}
use Rattle.script.specs.declared.lines.Command.TheVariants.{Euler}

-- the byte is one of the ten digits
abbrev pub is_digit : ℕ → Bool
is_digit b = nat_le 48 b && nat_le b 57

-- every byte is a digit
abbrev pub all_digits : List ℕ → Bool
all_digits [] = true
all_digits (b ∷ s) = is_digit b && all_digits s

-- the number that digits stand for, after those that stand for n
abbrev pub value : ℕ → List ℕ → ℕ
value n [] = n
value n (b ∷ s) = value (n * 10 + (b - 48)) s

-- one to five digits stand for n, which is at most 65,535
pub record Numeral (s : List ℕ) (n : ℕ) : Type 0 where
  pub some : 0 < length s
  pub few : length s ≤ 5
  pub digits : all_digits s ≡ true
  pub stands : value 0 s ≡ n
  pub small : n ≤ 65535

-- the bytes are one space and a numeral for each of the numbers, in order, and nothing else
abbrev pub Numerals : List ℕ → List ℕ → Type 0
Numerals s [] = s ≡ []
Numerals s (n ∷ ns) = (ds : List ℕ) × (rest : List ℕ) × (s ≡ 32 ∷ (ds ++ rest)) × Numeral ds n × Numerals rest ns

-- the letter of a command
abbrev pub letter_of : Command → ℕ
letter_of (Euler p) = 101

-- the numbers of a command
abbrev pub numbers_of : Command → List ℕ
numbers_of (Euler p) = p ∷ []

-- the line is the command's letter, and then its numbers
abbrev pub Says : List ℕ → Command → Type 0
Says line k = (rest : List ℕ) × (line ≡ letter_of k ∷ rest) × Numerals rest (numbers_of k)

-- the bytes before the first d
abbrev pub upto : ℕ → List ℕ → List ℕ
upto d [] = []
upto d (b ∷ s) = cond (b == d) [] (b ∷ upto d s)

-- the bytes from the first d on
abbrev pub from : ℕ → List ℕ → List ℕ
from d [] = []
from d (b ∷ s) = cond (b == d) (b ∷ s) (from d s)

-- the number of one to five digits, if it is at most 65,535
abbrev pub number_of : List ℕ → Option ℕ
number_of s = cond (nat_lt 0 (length s) && nat_le (length s) 5) (cond (all_digits s) (cond (nat_le (value 0 s) 65535) (Some (value 0 s)) None) None) None

-- a number, if there is one, and what follows it
abbrev pub followed : Option ℕ → List ℕ → Option (ℕ × List ℕ)
followed None s = None
followed (Some n) s = Some (n, s)

-- a space, a number up to the next space or the end, and what follows it
abbrev pub next_number : List ℕ → Option (ℕ × List ℕ)
next_number [] = None
next_number (b ∷ s) = cond (b == 32) (followed (number_of (upto 32 s)) (from 32 s)) None

-- the number, if nothing follows it
abbrev pub alone : Option (ℕ × List ℕ) → Option ℕ
alone None = None
alone (Some p) = cond (length p.1 == 0) (Some p.0) None

-- the command of a letter and of the bytes after it
abbrev pub letter_command : ℕ → List ℕ → Option Command
letter_command letter s = cond (letter == 101) (option_map Euler (alone (next_number s))) None

-- the command of a line, which has at most 64 bytes
abbrev pub command_of : List ℕ → Option Command
command_of [] = None
command_of (letter ∷ s) = cond (nat_lt (length s) 64) (letter_command letter s) None

-- what is read is the command of the line, if it has one, and a command is read exactly where the line says it
pub record Reads (line : List ℕ) (r : Option Command) : Type 0 where
  pub value : r ≡ command_of line
  pub law : (k : Command) → (r ≡ Some k) ↔ Says line k
