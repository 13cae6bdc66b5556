-- Notes are read again off their bytes.
use Rattle.std.proofs.Common.{◌≡◌, ℕ, zero, suc, ◌+◌, ◌-◌, ◌*◌, ◌/◌, ◌%◌, ◌<◌, ◌≤◌, List, [], ◌∷◌, ◌++◌, length, take, drop, sym, refl, ap, ◌∙◌, arith, length-append}
use Rattle.std.specs.List.{AllByRecursion}
use Rattle.std.proofs.lemmas.List.{append_assoc, take_at, drop_at}
use Rattle.std.proofs.ByRecursion.{All-append}
use Rattle.trail.specs.Notes.{Note, note, two_bytes, masks, bytes_of_note, bytes_of, room_of, room_used}
use Rattle.trail.specs.Decoding.{word, pairs_of, note_of, last_start, last_notes, notes_of}
use Rattle.trail.specs.Law.{Byte, MasksFit, NoteFits, NotesComeBack}

pub length_masks : (ps : List (ℕ × ℕ)) → length (masks ps) ≡ 2 * length ps
length_masks [] = refl
length_masks (p ∷ ps) = let ih = length_masks ps in omega arith

pub length_of_note : (n : Note) → length (bytes_of_note n) ≡ room_of n
length_of_note n =
    let m = length_masks n.pairs in
    let l = length-append (masks n.pairs) (two_bytes (length n.pairs)) in
    omega arith

pub length_of : (ns : List Note) → length (bytes_of ns) ≡ room_used ns
length_of [] = refl
length_of (n ∷ ns) =
    let ih = length_of ns in
    let l = length-append (bytes_of ns) (bytes_of_note n) in
    let r = length_of_note n in
    omega arith

pairs_of_masks : (ps : List (ℕ × ℕ)) → pairs_of (masks ps) ≡ ps
pairs_of_masks [] = refl
pairs_of_masks (p ∷ ps) = ap (λ l. p ∷ l) (pairs_of_masks ps)

pub word_of_two : (n : ℕ) → 256 * (n / 256) + n % 256 ≡ n
word_of_two n = omega arith

note_of_its_bytes : (n : Note) → note_of (bytes_of_note n) ≡ n
note_of_its_bytes n =
    let s = length n.pairs in
    let long : length (masks n.pairs) ≡ 2 * (256 * (s / 256) + s % 256) = omega (arith, length_masks n.pairs) in
    let ps = ap pairs_of (take_at (masks n.pairs) (two_bytes s) (2 * (256 * (s / 256) + s % 256)) long) ∙ pairs_of_masks n.pairs in
    (λ d. note (word_of_two n.u d) (word_of_two n.v d) (ps d))

-- the last record stands where it was put
last_start_is : (xs : List ℕ) (n : Note) → last_start (xs ++ bytes_of_note n) ≡ length xs
last_start_is xs n =
    let s = length n.pairs in
    let head = two_bytes n.u ++ (two_bytes n.v ++ (two_bytes s ++ masks n.pairs)) in
    let l = length-append xs (bytes_of_note n) in
    let r = length_of_note n in
    let f = length-append xs head in
    let m = length_masks n.pairs in
    let before : length (xs ++ head) ≡ length (xs ++ bytes_of_note n) - 2 = omega arith in
    let foot = ap (drop (length (xs ++ bytes_of_note n) - 2)) (sym (append_assoc xs head (two_bytes s))) ∙ drop_at (xs ++ head) (two_bytes s) (length (xs ++ bytes_of_note n) - 2) before in
    let is : word (drop (length (xs ++ bytes_of_note n) - 2) (xs ++ bytes_of_note n)) ≡ s = ap word foot ∙ word_of_two s in
    omega arith

last_notes_step : (k : ℕ) (bs : List ℕ) → 0 < length bs → last_notes (suc k) bs ≡ note_of (drop (last_start bs) bs) ∷ last_notes k (take (last_start bs) bs)
last_notes_step k [] some = absurd (omega arith)
last_notes_step k (b ∷ bs) some = refl

last_note_is_read : (k : ℕ) (xs : List ℕ) (n : Note) → last_notes (suc k) (xs ++ bytes_of_note n) ≡ n ∷ last_notes k xs
last_note_is_read k xs n =
    let l = length-append xs (bytes_of_note n) in
    let r = length_of_note n in
    let at = sym (last_start_is xs n) in
    let read = ap note_of (drop_at xs (bytes_of_note n) (last_start (xs ++ bytes_of_note n)) at) ∙ note_of_its_bytes n in
    let rest = take_at xs (bytes_of_note n) (last_start (xs ++ bytes_of_note n)) at in
    last_notes_step k (xs ++ bytes_of_note n) (omega arith) ∙ (λ d. read d ∷ last_notes k (rest d))

all_are_read : (k : ℕ) (ns : List Note) → length (bytes_of ns) ≤ k → last_notes k (bytes_of ns) ≡ ns
all_are_read zero [] few = refl
all_are_read (suc k) [] few = refl
all_are_read zero (n ∷ ns) few = absurd (omega (arith, length-append (bytes_of ns) (bytes_of_note n), length_of_note n))
all_are_read (suc k) (n ∷ ns) few =
    let l = length-append (bytes_of ns) (bytes_of_note n) in
    let r = length_of_note n in
    last_note_is_read k (bytes_of ns) n ∙ ap (λ l. n ∷ l) (all_are_read k ns (omega arith))

notes_of_bytes : (ns : List Note) → notes_of (bytes_of ns) ≡ ns
notes_of_bytes ns = all_are_read (length (bytes_of ns)) ns (omega arith)

-- bytes of records are formed, and hold those notes
pub formed_of : (xs : List ℕ) (ns : List Note) → xs ≡ bytes_of ns → bytes_of (notes_of xs) ≡ xs
formed_of xs ns is = ap (λ l. bytes_of (notes_of l)) is ∙ ap bytes_of (notes_of_bytes ns) ∙ sym is

pub holds_of : (xs : List ℕ) (ns : List Note) → xs ≡ bytes_of ns → notes_of xs ≡ ns
holds_of xs ns is = ap notes_of is ∙ notes_of_bytes ns

two_are_bytes : (n : ℕ) → n < 65536 → AllByRecursion Byte (two_bytes n)
two_are_bytes n h = (omega arith, (omega arith, tt))

masks_are_bytes : (ps : List (ℕ × ℕ)) → AllByRecursion MasksFit ps → AllByRecursion Byte (masks ps)
masks_are_bytes [] h = tt
masks_are_bytes (p ∷ ps) h = (h.0.0, (h.0.1, masks_are_bytes ps h.1))

note_is_bytes : (n : Note) → NoteFits n → AllByRecursion Byte (bytes_of_note n)
note_is_bytes n h =
    let s = length n.pairs in
    let most = All-append Byte (masks n.pairs) (two_bytes s) (masks_are_bytes n.pairs h.narrow) (two_are_bytes s h.few) in
    let u = two_are_bytes n.u h.u in
    let v = two_are_bytes n.v h.v in
    let c = two_are_bytes s h.few in
    (u.0, (u.1.0, (v.0, (v.1.0, (c.0, (c.1.0, most))))))

notes_are_bytes : (ns : List Note) → AllByRecursion NoteFits ns → AllByRecursion Byte (bytes_of ns)
notes_are_bytes [] h = tt
notes_are_bytes (n ∷ ns) h = All-append Byte (bytes_of ns) (bytes_of_note n) (notes_are_bytes ns h.1) (note_is_bytes n h.0)

pub notes_come_back : NotesComeBack
notes_come_back ns fit = (notes_are_bytes ns fit, notes_of_bytes ns)
