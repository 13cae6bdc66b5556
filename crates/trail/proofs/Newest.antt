-- What is read of the newest record, and what is left without it.
use Rattle.std.proofs.Common.{◌≡◌, ℕ, zero, suc, ◌+◌, ◌-◌, ◌*◌, ◌<◌, ◌≤◌, List, [], ◌∷◌, ◌++◌, length, get_or, take, drop, Some, None, sym, refl, ap, ◌∙◌, arith}
use Rattle.std.proofs.lemmas.List.{append_assoc, get_or-drop}
use Rattle.trail.specs.Notes.{Note, two_bytes, masks, bytes_of, record_length, room_of, room_used}
use Rattle.trail.specs.Decoding.{word, notes_of}
use Rattle.trail.specs.Past.{Past, HoldsRecords, past_of}
use Rattle.trail.specs.Heads.{head_of}
use Rattle.trail.specs.Questions.{newest_head, newest_pair, earlier}
use Rattle.trail.specs.declared.head.Head.{Head}
use Rattle.trail.proofs.Settled.{room_is_used, newest_stands, head_words}

mask_bytes : (ps : List (ℕ × ℕ)) (i : ℕ) (more : List ℕ) → i < length ps → (get_or (masks ps ++ more) (2 * i) 0, get_or (masks ps ++ more) (2 * i + 1) 0) ≡ get_or ps i (0, 0)
mask_bytes [] i more within = absurd (omega arith)
mask_bytes (p ∷ ps) zero more within = refl
mask_bytes (p ∷ ps) (suc i) more within =
    let e : 2 * suc i ≡ suc (suc (2 * i)) = omega arith in
    let f : 2 * suc i + 1 ≡ suc (suc (2 * i + 1)) = omega arith in
    (λ d. (get_or (masks (p ∷ ps) ++ more) (e d) 0, get_or (masks (p ∷ ps) ++ more) (f d) 0)) ∙ mask_bytes ps i more (omega arith)

module _ (bytes : List ℕ) (used : ℕ) (t : HoldsRecords bytes used) (p : Past) (view_is : past_of bytes used ≡ p) where
  -- the notes of the records
  notes_are : notes_of (take used bytes) ≡ p.notes
  notes_are = ap (λ x. x.notes) view_is

  -- where the newest record begins, by the number at its end
  abbrev pub start : ℕ
  start = used - record_length (word (drop (used - 2) bytes))

  -- bytes in use are those of some record
  none_used : p.notes ≡ [] → used ≡ 0
  none_used is = sym (room_is_used bytes used t) ∙ ap room_used (notes_are ∙ is)

  pub newest_has_room : 0 < used → record_length (word (drop (used - 2) bytes)) ≤ used
  newest_has_room some = go p.notes refl
    where
      go : (ns : List Note) → p.notes ≡ ns → record_length (word (drop (used - 2) bytes)) ≤ used
      go [] is = absurd (omega (arith, none_used is))
      go (n ∷ ns) is = let st = newest_stands bytes used t n ns (notes_are ∙ is) in omega (arith, st.foot, st.room)

  pub newest_is_read : (h : Head) → 0 < used → h.u ≡ word (drop start bytes) → h.v ≡ word (drop (start + 2) bytes) → h.s ≡ word (drop (start + 4) bytes) → Some h ≡ newest_head p.notes
  newest_is_read h some u v s = go p.notes refl
    where
      go : (ns : List Note) → p.notes ≡ ns → Some h ≡ newest_head ns
      go [] is = absurd (omega (arith, none_used is))
      go (n ∷ ns) is =
          let st = newest_stands bytes used t n ns (notes_are ∙ is) in
          let at : start ≡ used - room_of n = ap (λ k. used - record_length k) st.foot in
          let hs = head_words bytes start n (drop used bytes) (ap (λ k. drop k bytes) at ∙ st.here) in
          let eu = u ∙ hs.u in
          let ev = v ∙ hs.v in
          let es = s ∙ hs.s in
          (λ d. Some (record { u = eu d; v = ev d; s = es d }))

  -- the newest note, where a head was read
  pub record HasNewest (h : Head) : Type 0 where
    pub n : Note
    pub ns : List Note
    pub is : p.notes ≡ n ∷ ns
    pub s : length n.pairs ≡ h.s

  has_newest : (h : Head) → Some h ≡ newest_head p.notes → HasNewest h
  has_newest h read = go p.notes refl
    where
      go : (ns : List Note) → p.notes ≡ ns → HasNewest h
      go [] is =
          let e : Some h ≡ None = read ∙ ap newest_head is in
          let z : ◌≡◌ {A = ℕ} 0 1 = cc in
          absurd (omega arith)
      go (n ∷ ns) is =
          let e : Some h ≡ Some (head_of n) = read ∙ ap newest_head is in
          let same : h ≡ head_of n = cc in
          record { n = n; ns = ns; is = is; s = sym (ap (λ x. x.s) same) }

  pub newest_room : (h : Head) → Some h ≡ newest_head p.notes → record_length h.s ≤ used
  newest_room h read =
      let f = has_newest h read in
      let st = newest_stands bytes used t f.n f.ns (notes_are ∙ f.is) in
      omega (arith, st.room, f.s)

  -- the bytes before the newest record are those of the earlier ones
  pub before_newest : (h : Head) (len : ℕ) → Some h ≡ newest_head p.notes → len ≡ record_length h.s → take (used - len) bytes ≡ bytes_of (earlier p.notes)
  before_newest h len read long =
      let f = has_newest h read in
      let st = newest_stands bytes used t f.n f.ns (notes_are ∙ f.is) in
      ap (λ k. take (used - k) bytes) (long ∙ ap record_length (sym f.s)) ∙ st.earlier ∙ ap (λ l. bytes_of (earlier l)) (sym f.is)

  pub pair_is_read : (h : Head) (i : ℕ) → Some h ≡ newest_head p.notes → i < h.s → (get_or bytes (used - 2 - 2 * (h.s - i)) 0, get_or bytes (used - 2 - 2 * (h.s - i) + 1) 0) ≡ newest_pair p.notes i
  pair_is_read h i read within =
      let f = has_newest h read in
      let n = f.n in
      let st = newest_stands bytes used t n f.ns (notes_are ∙ f.is) in
      let same = f.s in
      let room = st.room in
      let from = used - room_of n in
      let rest = two_bytes (length n.pairs) ++ drop used bytes in
      let pairs : drop 6 (drop from bytes) ≡ masks n.pairs ++ rest = ap (drop 6) st.here ∙ append_assoc (masks n.pairs) (two_bytes (length n.pairs)) (drop used bytes) in
      let at : used - 2 - 2 * (h.s - i) ≡ from + (6 + 2 * i) = omega arith in
      let at' : used - 2 - 2 * (h.s - i) + 1 ≡ from + (6 + (2 * i + 1)) = omega arith in
      let byte : (k : ℕ) → get_or bytes (from + (6 + k)) 0 ≡ get_or (masks n.pairs ++ rest) k 0 = λ k. sym (get_or-drop from bytes (6 + k) 0) ∙ sym (get_or-drop 6 (drop from bytes) k 0) ∙ ap (λ l. get_or l k 0) pairs in
      let a = ap (λ k. get_or bytes k 0) at ∙ byte (2 * i) in
      let b = ap (λ k. get_or bytes k 0) at' ∙ byte (2 * i + 1) in
      (λ d. (a d, b d)) ∙ mask_bytes n.pairs i rest (omega arith) ∙ ap (λ l. newest_pair l i) (sym f.is)
