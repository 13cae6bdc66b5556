-- The numbers of a line, read and written.
use Rattle.std.proofs.Common.{◌≡◌, ℕ, ◌*◌, ◌<◌, ◌≤◌, Bool, true, false, cond, eqb, ltb, ◌↔◌, List, [], ◌∷◌, ◌++◌, length, get_or, Some, None, Option, sym, refl, ap, ◌∙◌, append-nil, arith, length-append}
use Rattle.std.proofs.lemmas.Slice.{between_to_end}
use Rattle.std.proofs.lemmas.Bool.{eqb-true, lt-ltb, cond-true, cond-false, and_parts}
use Rattle.std.proofs.lemmas.Bool.Decides.{nat_tests}
use Rattle.std.specs.Option.{option_map}
use Rattle.script.specs.declared.lines.Command.{Command}
use Rattle.script.specs.declared.lines.Command.TheVariants.{Euler}
use Rattle.script.specs.Line.{is_digit, all_digits, Numeral, Numerals, Says, upto, from, number_of, followed, next_number, alone, letter_command, command_of}
use Rattle.script.proofs.Cutting.{after_one, upto_from}

pub command_by_letter : (s : List ℕ) → 1 ≤ length s → length (after_one s) < 64 → letter_command (get_or s 0 0) (after_one s) ≡ command_of s
command_by_letter [] long few = absurd (omega arith)
command_by_letter (b ∷ s) long few =
    let same = between_to_end (b ∷ s) 1 (length (b ∷ s)) (omega arith) in
    ap (letter_command b) same ∙ sym (cond-true _ _ _ (lt-ltb (length s) 64 (omega (arith, ap length same))))

number_is_numeral : (s : List ℕ) (n : ℕ) → number_of s ≡ Some n → Numeral s n
number_is_numeral s n e = record {
  some = grind (arith, nat_tests);
  few = grind (arith, nat_tests);
  digits = grind (arith, nat_tests);
  stands = grind (arith, nat_tests);
  small = grind (arith, nat_tests);
}

numeral_is_number : (s : List ℕ) (n : ℕ) → Numeral s n → number_of s ≡ Some n
numeral_is_number s n h = grind (arith, nat_tests)

digit_is_no_space : (b : ℕ) → is_digit b ≡ true → eqb b 32 ≡ false
digit_is_no_space b e = grind (arith, nat_tests)

-- digits do not end at a space
digits_upto : (ds rest : List ℕ) → all_digits ds ≡ true → upto 32 (ds ++ rest) ≡ ds ++ upto 32 rest
digits_upto [] rest e = refl
digits_upto (b ∷ ds) rest e =
    let both = and_parts _ _ e in
    cond-false _ _ _ (digit_is_no_space b both.0) ∙ ap (λ l. b ∷ l) (digits_upto ds rest both.1)

digits_from : (ds rest : List ℕ) → all_digits ds ≡ true → from 32 (ds ++ rest) ≡ from 32 rest
digits_from [] rest e = refl
digits_from (b ∷ ds) rest e =
    let both = and_parts _ _ e in
    cond-false _ _ _ (digit_is_no_space b both.0) ∙ digits_from ds rest both.1

-- numerals begin with a space, if they are any
numerals_upto : (s ns : List ℕ) → Numerals s ns → upto 32 s ≡ []
numerals_upto s [] h = ap (upto 32) h
numerals_upto s (n ∷ ns) h = ap (upto 32) h.2

numerals_from : (s ns : List ℕ) → Numerals s ns → from 32 s ≡ s
numerals_from s [] h = ap (from 32) h ∙ sym h
numerals_from s (n ∷ ns) h = ap (from 32) h.2 ∙ sym h.2

numerals_short : (s ns : List ℕ) → Numerals s ns → length s ≤ 6 * length ns
numerals_short s [] h = omega (arith, ap length h)
numerals_short s (n ∷ ns) h =
    omega (arith, ap length h.2, length-append h.0 h.1, h.3.few, numerals_short h.1 ns h.4)

-- a number is read exactly where one is written
next_number_read : (s : List ℕ) (n : ℕ) (rest : List ℕ) → next_number s ≡ Some (n, rest) → (ds : List ℕ) × (s ≡ 32 ∷ (ds ++ rest)) × Numeral ds n
next_number_read [] n rest e = absurd (grind arith)
next_number_read (b ∷ s) n rest e = go (eqb b 32) (number_of (upto 32 s)) refl refl e
  where
    go : (t : Bool) (o : Option ℕ) → eqb b 32 ≡ t → number_of (upto 32 s) ≡ o → cond t (followed o (from 32 s)) None ≡ Some (n, rest) → (ds : List ℕ) × (b ∷ s ≡ 32 ∷ (ds ++ rest)) × Numeral ds n
    go true (Some m) space number e =
        let same : b ≡ 32 = eqb-true b 32 space in
        let whole = upto_from 32 s in
        let pair : ◌≡◌ {A = ℕ × List ℕ} (m, from 32 s) (n, rest) = cc in
        let first : m ≡ n = ap (λ p. p.0) pair in
        let second : from 32 s ≡ rest = ap (λ p. p.1) pair in
        (upto 32 s, cc, number_is_numeral (upto 32 s) n (cc))
    go true None space number e = absurd (grind arith)
    go false o space number e = absurd (grind arith)

next_number_written : (s : List ℕ) (n : ℕ) (ns : List ℕ) (h : Numerals s (n ∷ ns)) → next_number s ≡ Some (n, h.1)
next_number_written s n ns h =
    ap next_number h.2
    ∙ ap (λ l. followed (number_of l) (from 32 (h.0 ++ h.1))) (digits_upto h.0 h.1 h.3.digits ∙ ap (λ l. h.0 ++ l) (numerals_upto h.1 ns h.4) ∙ append-nil h.0)
    ∙ ap (λ o. followed o (from 32 (h.0 ++ h.1))) (numeral_is_number h.0 n h.3)
    ∙ ap (λ l. Some (n, l)) (digits_from h.0 h.1 h.3.digits ∙ numerals_from h.1 ns h.4)

alone_read : (o : Option (ℕ × List ℕ)) (n : ℕ) → alone o ≡ Some n → o ≡ Some (n, [])
alone_read None n e = absurd (grind arith)
alone_read (Some (m, [])) n e = let same : m ≡ n = cc in ap (λ k. Some (k, [])) same
alone_read (Some (m, b ∷ s)) n e = absurd (grind arith)

euler_read : (line : List ℕ) (p : ℕ) → command_of line ≡ Some (Euler p) → Says line (Euler p)
euler_read [] p e = absurd (grind arith)
euler_read (letter ∷ s) p e = go (ltb (length s) 64) (eqb letter 101) (alone (next_number s)) refl refl e
  where
    go : (few known : Bool) (o : Option ℕ) → eqb letter 101 ≡ known → alone (next_number s) ≡ o → cond few (cond known (option_map Euler o) None) None ≡ Some (Euler p) → Says (letter ∷ s) (Euler p)
    go true true (Some n) known number e =
        let same : letter ≡ 101 = eqb-true letter 101 known in
        let read = next_number_read s p [] (alone_read (next_number s) p (cc)) in
        (s, ap (λ b. b ∷ s) same, (read.0, [], read.1, read.2, refl))
    go true true None known number e = absurd (grind arith)
    go true false o known number e = absurd (grind arith)
    go false known o letter-known number e = absurd (grind arith)

euler_written : (line : List ℕ) (p : ℕ) → Says line (Euler p) → command_of line ≡ Some (Euler p)
euler_written line p h =
    let few = numerals_short h.0 (p ∷ []) h.2 in
    ap command_of h.1
    ∙ cond-true _ _ _ (lt-ltb (length h.0) 64 (omega arith))
    ∙ ap (λ o. option_map Euler (alone o)) (next_number_written h.0 p [] h.2 ∙ ap (λ l. Some (p, l)) h.2.4)

-- a line reads as a command exactly where it says that command
pub read_where_said : (line : List ℕ) (r : Option Command) → r ≡ command_of line → (k : Command) → (r ≡ Some k) ↔ Says line k
read_where_said line r e (Euler p) = (λ some. euler_read line p (sym e ∙ some), λ said. e ∙ euler_written line p said)
