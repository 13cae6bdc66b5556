-- The pairs of the record that is being made, and the record made of them.
use Rattle.std.proofs.Common.{◌≡◌, ℕ, ◌+◌, ◌-◌, ◌*◌, ◌/◌, ◌%◌, ◌<◌, ◌≤◌, true, List, [], ◌∷◌, ◌++◌, length, get_or, take, drop, Ok, sym, refl, ap, ◌∙◌, arith, length-append, length-drop, take-add}
use Rattle.std.proofs.lemmas.List.{append_assoc, take_at, drop_at, length-take-le, take-append-le, take-take, drop-append-le, drop-take, drop-drop}
use Rattle.std.proofs.lemmas.Bool.{both_ways, leb-true, cond-true}
use Rattle.trail.specs.Notes.{capacity, Note, note, two_bytes, masks, bytes_of_note, bytes_of, record_length, room_used, has_room}
use Rattle.trail.specs.Decoding.{pairs_of, notes_of}
use Rattle.trail.specs.Past.{Past, HoldsRecords, past_of, pending, Paired, Committed}
use Rattle.trail.specs.declared.head.Head.{Head}
use Rattle.trail.proofs.Decoded.{holds_of}
use Rattle.trail.proofs.Settled.{room_is_used}

-- an even number of bytes are pairs
masks_of_pairs : (s : ℕ) (bs : List ℕ) → length bs ≡ 2 * s → masks (pairs_of bs) ≡ bs
masks_of_pairs s [] even = refl
masks_of_pairs s (a ∷ []) even = absurd (omega arith)
masks_of_pairs s (a ∷ b ∷ bs) even = ap (λ l. a ∷ b ∷ l) (masks_of_pairs (s - 1) bs (omega arith))

number_of_pairs : (s : ℕ) (bs : List ℕ) → length bs ≡ 2 * s → length (pairs_of bs) ≡ s
number_of_pairs s [] even = omega arith
number_of_pairs s (a ∷ []) even = absurd (omega arith)
number_of_pairs s (a ∷ b ∷ bs) even = let ih = number_of_pairs (s - 1) bs (omega arith) in omega arith

pairs_pushed : (s : ℕ) (bs : List ℕ) (a b : ℕ) → length bs ≡ 2 * s → pairs_of (bs ++ (a ∷ b ∷ [])) ≡ pairs_of bs ++ ((a, b) ∷ [])
pairs_pushed s [] a b even = refl
pairs_pushed s (x ∷ []) a b even = absurd (omega arith)
pairs_pushed s (x ∷ y ∷ bs) a b even = ap (λ l. (x, y) ∷ l) (pairs_pushed (s - 1) bs a b (omega arith))

-- bytes written over others from a place on
abbrev pub written_at : List ℕ → ℕ → List ℕ → List ℕ
written_at bs at part = take at bs ++ (part ++ drop (at + length part) bs)

length_written_at : (bs : List ℕ) (at : ℕ) (part : List ℕ) → at + length part ≤ length bs → length (written_at bs at part) ≡ length bs
length_written_at bs at part within =
    let l = length-append (take at bs) (part ++ drop (at + length part) bs) in
    let m = length-append part (drop (at + length part) bs) in
    let t = length-take-le at bs (omega arith) in
    let d = length-drop (at + length part) bs in
    omega arith

-- what stands before is as it was
before_written : (bs : List ℕ) (n at : ℕ) (part : List ℕ) → n ≤ at → at ≤ length bs → take n (written_at bs at part) ≡ take n bs
before_written bs n at part le within =
    let l = length-take-le at bs within in
    take-append-le n (take at bs) _ (omega arith) ∙ take-take n at bs le

-- from a place before on, the same is written nearer to the start
written_from : (bs : List ℕ) (n k : ℕ) (part : List ℕ) → n + k ≤ length bs → drop n (written_at bs (n + k) part) ≡ take k (drop n bs) ++ (part ++ drop (n + k + length part) bs)
written_from bs n k part within =
    let l = length-take-le (n + k) bs within in
    drop-append-le n (take (n + k) bs) _ (omega arith) ∙ ap (λ l. l ++ (part ++ drop (n + k + length part) bs)) (drop-take n k bs)

module _ (bs : List ℕ) (n i a b : ℕ) (room : n + 2 * i + 2 ≤ length bs) where
  length_before : length (take (2 * i) (drop n bs)) ≡ 2 * i
  length_before = let d = length-drop n bs in length-take-le (2 * i) (drop n bs) (omega arith)

  -- one more pair stands behind those written
  one_more_pair : pairs_of (take (2 * (i + 1)) (drop n (written_at bs (n + 2 * i) (a ∷ b ∷ [])))) ≡ pairs_of (take (2 * i) (drop n bs)) ++ ((a, b) ∷ [])
  one_more_pair =
      let xs = take (2 * i) (drop n bs) in
      let more = drop (n + 2 * i + 2) bs in
      let l = length-append xs (a ∷ b ∷ []) in
      let m = length_before in
      let at : length (xs ++ (a ∷ b ∷ [])) ≡ 2 * (i + 1) = omega arith in
      ap (λ l. pairs_of (take (2 * (i + 1)) l)) (written_from bs n (2 * i) (a ∷ b ∷ []) (omega arith) ∙ sym (append_assoc xs (a ∷ b ∷ []) more))
      ∙ ap pairs_of (take_at (xs ++ (a ∷ b ∷ [])) more (2 * (i + 1)) at)
      ∙ pairs_pushed i xs a b m

  -- the pairs before it are as they were
  pairs_before : (k : ℕ) → k ≤ i → pairs_of (take (2 * k) (drop n (written_at bs (n + 2 * i) (a ∷ b ∷ [])))) ≡ pairs_of (take (2 * k) (drop n bs))
  pairs_before k le =
      let m = length_before in
      ap (λ l. pairs_of (take (2 * k) l)) (written_from bs n (2 * i) (a ∷ b ∷ []) (omega arith))
      ∙ ap pairs_of (take-append-le (2 * k) (take (2 * i) (drop n bs)) _ (omega arith) ∙ take-take (2 * k) (2 * i) (drop n bs) (omega arith))

-- head and foot around the pairs make the record
record_made : (bs : List ℕ) (n u v s : ℕ) → n + record_length s ≤ length bs → take (n + record_length s) (written_at (written_at bs n (two_bytes u ++ (two_bytes v ++ two_bytes s))) (n + 6 + 2 * s) (two_bytes s)) ≡ take n bs ++ bytes_of_note (note u v (pairs_of (take (2 * s) (drop (n + 6) bs))))
record_made bs n u v s room =
    let head = two_bytes u ++ (two_bytes v ++ two_bytes s) in
    let foot = two_bytes s in
    let first = written_at bs n head in
    let ps = take (2 * s) (drop (n + 6) bs) in
    let front = take n bs ++ head in
    let split : first ≡ front ++ drop (n + 6) bs = sym (append_assoc (take n bs) head (drop (n + 6) bs)) in
    let ln = length-take-le n bs (omega arith) in
    let lf = length-append (take n bs) head in
    let long = length_written_at bs n head (omega arith) in
    let lt = length-take-le (n + 6 + 2 * s) first (omega arith) in
    let la = length-append (take (n + 6 + 2 * s) first) foot in
    let at : length (take (n + 6 + 2 * s) first ++ foot) ≡ n + record_length s = omega arith in
    let here : length front ≡ n + 6 = omega arith in
    let ld = length-drop (n + 6) bs in
    let lp = length-take-le (2 * s) (drop (n + 6) bs) (omega arith) in
    let more = drop (n + 6 + 2 * s + 2) first in
    let begun = ap (take (n + 6)) split ∙ take_at front (drop (n + 6) bs) (n + 6) here in
    let kept = ap (λ l. take (2 * s) (drop (n + 6) l)) split ∙ ap (take (2 * s)) (drop_at front (drop (n + 6) bs) (n + 6) here) in
    let number = sym (number_of_pairs s ps lp) in
    let pairs = sym (masks_of_pairs s ps lp) in
    ap (take (n + record_length s)) (sym (append_assoc (take (n + 6 + 2 * s) first) foot more))
    ∙ take_at (take (n + 6 + 2 * s) first ++ foot) more (n + record_length s) at
    ∙ ap (λ l. l ++ foot) (take-add (n + 6) (2 * s) first ∙ (λ d. begun d ++ kept d))
    ∙ append_assoc front ps foot
    ∙ append_assoc (take n bs) head (ps ++ foot)
    ∙ (λ d. take n bs ++ (two_bytes u ++ (two_bytes v ++ (two_bytes (number d) ++ (pairs d ++ two_bytes (number d))))))

-- head and foot as the bytes of their numbers were read
pub record_enclosed : (bs b₁ b₂ ru rv rs : List ℕ) (n u v s : ℕ) → n + record_length s ≤ length bs → ru ≡ two_bytes u → rv ≡ two_bytes v → rs ≡ two_bytes s → b₁ ≡ written_at bs n (get_or ru 0 0 ∷ get_or ru 1 0 ∷ get_or rv 0 0 ∷ get_or rv 1 0 ∷ get_or rs 0 0 ∷ get_or rs 1 0 ∷ []) → b₂ ≡ written_at b₁ (n + 6 + 2 * s) (get_or rs 0 0 ∷ get_or rs 1 0 ∷ []) → take (n + record_length s) b₂ ≡ take n bs ++ bytes_of_note (note u v (pairs_of (take (2 * s) (drop (n + 6) bs))))
record_enclosed bs b₁ b₂ ru rv rs n u v s room hu hv hs first second =
    let head = first ∙ (λ d. written_at bs n (get_or (hu d) 0 0 ∷ get_or (hu d) 1 0 ∷ get_or (hv d) 0 0 ∷ get_or (hv d) 1 0 ∷ get_or (hs d) 0 0 ∷ get_or (hs d) 1 0 ∷ [])) in
    let foot = second ∙ (λ d. written_at (head d) (n + 6 + 2 * s) (get_or (hs d) 0 0 ∷ get_or (hs d) 1 0 ∷ [])) in
    ap (take (n + record_length s)) foot ∙ record_made bs n u v s room

-- the two bytes of a sixteen-bit number
pub two_bytes_are : (n : ℕ) (r : List ℕ) → n < 65536 → r ≡ (n / 256 % 256) ∷ (n % 256) ∷ [] → r ≡ two_bytes n
two_bytes_are n r small is = let e : n / 256 % 256 ≡ n / 256 = omega arith in is ∙ (λ d. e d ∷ n % 256 ∷ [])

module _ (bytes : List ℕ) (used : ℕ) (t : HoldsRecords bytes used) (p : Past) (view_is : past_of bytes used ≡ p) where
  -- a record that has room ends within the trail
  pub room_there : (s : ℕ) → has_room p.notes s ≡ true → used + record_length s ≤ capacity
  room_there s has =
      let taken = room_is_used bytes used t in
      let same = ap (λ x. room_used x.notes) view_is in
      let l = leb-true (record_length s) (capacity - room_used p.notes) has in
      omega (arith, t.within)

  pub kept_before : (bs : List ℕ) (i a b : ℕ) → has_room p.notes (i + 1) ≡ true → bs ≡ written_at bytes (used + 6 + 2 * i) (a ∷ b ∷ []) → take used bs ≡ take used bytes
  kept_before bs i a b has is =
      let room = room_there (i + 1) has in
      ap (take used) is ∙ before_written bytes used (used + 6 + 2 * i) (a ∷ b ∷ []) (omega arith) (omega (arith, t.size))

  pub pair_written : (bs : List ℕ) (i a b : ℕ) → has_room p.notes (i + 1) ≡ true → bs ≡ written_at bytes (used + 6 + 2 * i) (a ∷ b ∷ []) → Paired i a b p (past_of bs used)
  pair_written bs i a b has is = rw (← view_is) (record {
    notes = ap notes_of (kept_before bs i a b has is);
    written = λ h. moved (i + 1) ∙ one_more_pair bytes (used + 6) i a b room ∙ ap (λ l. l ++ ((a, b) ∷ [])) (here i);
    before = λ n le. moved n ∙ pairs_before bytes (used + 6) i a b room n le ∙ here n;
    refused = λ h. absurd (both_ways _ h (ap (λ x. has_room x.notes (i + 1)) view_is ∙ has));
  })
    where
      room : used + 6 + 2 * i + 2 ≤ length bytes
      room = let r = room_there (i + 1) has in omega (arith, t.size)

      here : (n : ℕ) → pairs_of (take (2 * n) (drop (used + 6) bytes)) ≡ pending (past_of bytes used) n
      here n = ap (λ l. pairs_of (take (2 * n) l)) (sym (drop-drop 6 used bytes))

      moved : (n : ℕ) → pending (past_of bs used) n ≡ pairs_of (take (2 * n) (drop (used + 6) (written_at bytes (used + 6 + 2 * i) (a ∷ b ∷ []))))
      moved n = ap (λ l. pairs_of (take (2 * n) l)) (drop-drop 6 used bs ∙ ap (drop (used + 6)) is)

  module _ (bs : List ℕ) (head : Head) (len : ℕ) (long : len ≡ record_length head.s)
      (made : take (used + record_length head.s) bs ≡ take used bytes ++ bytes_of_note (note head.u head.v (pairs_of (take (2 * head.s) (drop (used + 6) bytes))))) where
    -- the note that was made
    abbrev pub newest : Note
    newest = note head.u head.v (pending (past_of bytes used) head.s)

    -- with the record made a trail has one more note
    pub one_more_note : take (used + len) bs ≡ bytes_of (newest ∷ notes_of (take used bytes))
    one_more_note =
        ap (λ k. take (used + k) bs) long
        ∙ made
        ∙ ap (λ l. take used bytes ++ bytes_of_note (note head.u head.v (pairs_of (take (2 * head.s) l)))) (sym (drop-drop 6 used bytes))
        ∙ ap (λ l. l ++ bytes_of_note newest) (sym t.formed)

    pub record_committed : has_room p.notes head.s ≡ true → Committed head p (past_of bs (used + len)) (Ok len)
    record_committed has = rw (← view_is) (record {
      answer = ap Ok long ∙ sym (cond-true _ _ _ there);
      notes = holds_of _ (newest ∷ notes_of (take used bytes)) one_more_note ∙ sym (cond-true _ _ _ there);
      refused = λ h. absurd (both_ways _ h there);
    })
      where
        there : has_room (notes_of (take used bytes)) head.s ≡ true
        there = ap (λ x. has_room x.notes head.s) view_is ∙ has
