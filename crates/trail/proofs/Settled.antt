-- Where the records of a trail stand in its bytes.
use Rattle.std.proofs.Common.{◌≡◌, ℕ, ◌+◌, ◌-◌, ◌*◌, ◌/◌, ◌<◌, ◌≤◌, Bool, true, false, leb, List, ◌∷◌, ◌++◌, length, take, drop, sym, refl, ap, ◌∙◌, arith}
use Rattle.std.proofs.lemmas.List.{append_assoc, take_at, drop_at, length-take-le, take-append-drop, drop-drop}
use Rattle.std.proofs.lemmas.Bool.{leb-true, leb-false, le-leb, lt-leb}
use Rattle.trail.specs.Notes.{capacity, Note, two_bytes, masks, bytes_of_note, bytes_of, record_length, room_of, room_used, has_room}
use Rattle.trail.specs.Decoding.{word, notes_of}
use Rattle.trail.specs.Past.{HoldsRecords}
use Rattle.trail.proofs.Decoded.{length_masks, length_of, word_of_two}

-- the words at the head of a record
pub record HeadAt (bs : List ℕ) (at : ℕ) (n : Note) : Type 0 where
  pub u : word (drop at bs) ≡ n.u
  pub v : word (drop (at + 2) bs) ≡ n.v
  pub s : word (drop (at + 4) bs) ≡ length n.pairs

pub head_words : (bs : List ℕ) (at : ℕ) (n : Note) (more : List ℕ) → drop at bs ≡ bytes_of_note n ++ more → HeadAt bs at n
head_words bs at n more is = record {
  u = ap word is ∙ word_of_two n.u;
  v = ap word (sym (drop-drop 2 at bs) ∙ ap (drop 2) is) ∙ word_of_two n.v;
  s = ap word (sym (drop-drop 4 at bs) ∙ ap (drop 4) is) ∙ word_of_two (length n.pairs);
}

module _ (bytes : List ℕ) (used : ℕ) (t : HoldsRecords bytes used) where
  -- the notes of the records
  abbrev pub past : List Note
  past = notes_of (take used bytes)

  -- the records take the bytes in use
  pub room_is_used : room_used past ≡ used
  room_is_used =
      let w : used ≤ length bytes = omega (arith, t.size, t.within) in
      sym (length_of past) ∙ ap length t.formed ∙ length-take-le used bytes w

  -- room for a record is told without a sum that could pass the largest number
  pub room_for_pairs : (s : ℕ) → 8 ≤ capacity - used → leb s ((capacity - used - 6 - 2) / 2) ≡ has_room past s
  room_for_pairs s room = go (leb s ((capacity - used - 6 - 2) / 2)) refl
    where
      go : (b : Bool) → leb s ((capacity - used - 6 - 2) / 2) ≡ b → b ≡ has_room past s
      go true e =
          let taken = room_is_used in
          let l = leb-true s ((capacity - used - 6 - 2) / 2) e in
          sym (le-leb (record_length s) (capacity - room_used past) (omega arith))
      go false e =
          let taken = room_is_used in
          let l = leb-false s ((capacity - used - 6 - 2) / 2) e in
          sym (lt-leb (record_length s) (capacity - room_used past) (omega arith))

  pub no_room_for_pairs : (s : ℕ) → capacity - used < 8 → has_room past s ≡ false
  no_room_for_pairs s room = let taken = room_is_used in lt-leb (record_length s) (capacity - room_used past) (omega arith)

  -- where the newest record begins
  pub record Newest (n : Note) (ns : List Note) : Type 0 where
    pub room : room_of n + room_used ns ≡ used
    pub earlier : take (used - room_of n) bytes ≡ bytes_of ns
    pub here : drop (used - room_of n) bytes ≡ bytes_of_note n ++ drop used bytes
    pub foot : word (drop (used - 2) bytes) ≡ length n.pairs

  pub newest_stands : (n : Note) (ns : List Note) → past ≡ n ∷ ns → Newest n ns
  newest_stands n ns is = record {
    room = room;
    earlier = ap (take (used - room_of n)) whole ∙ take_at (bytes_of ns) _ (used - room_of n) before;
    here = here;
    foot = ap word foot ∙ word_of_two (length n.pairs);
  }
    where
      ps : List (ℕ × ℕ)
      ps = n.pairs

      room : room_of n + room_used ns ≡ used
      room = sym (ap room_used is) ∙ room_is_used

      before : length (bytes_of ns) ≡ used - room_of n
      before = let l = length_of ns in let r = room in omega arith

      whole : bytes ≡ bytes_of ns ++ (bytes_of_note n ++ drop used bytes)
      whole = sym (take-append-drop used bytes) ∙ ap (λ l. l ++ drop used bytes) (sym t.formed ∙ ap bytes_of is) ∙ append_assoc (bytes_of ns) (bytes_of_note n) (drop used bytes)

      here : drop (used - room_of n) bytes ≡ bytes_of_note n ++ drop used bytes
      here = ap (drop (used - room_of n)) whole ∙ drop_at (bytes_of ns) _ (used - room_of n) before

      first : List ℕ
      first = two_bytes n.u ++ (two_bytes n.v ++ (two_bytes (length ps) ++ masks ps))

      foot : drop (used - 2) bytes ≡ two_bytes (length ps) ++ drop used bytes
      foot =
          let m = length_masks ps in
          let r = room in
          let at : used - 2 ≡ (used - room_of n) + (6 + 2 * length ps) = omega arith in
          let long : length first ≡ 6 + 2 * length ps = omega arith in
          ap (λ k. drop k bytes) at ∙ sym (drop-drop (6 + 2 * length ps) (used - room_of n) bytes) ∙ ap (drop (6 + 2 * length ps)) (here ∙ append_assoc first (two_bytes (length ps)) (drop used bytes)) ∙ drop_at first (two_bytes (length ps) ++ drop used bytes) (6 + 2 * length ps) long
