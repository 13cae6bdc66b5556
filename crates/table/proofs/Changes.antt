-- A change at a key's place is the change at the key.
use Rattle.std.proofs.Common.{◌≡◌, ℕ, ◌+◌, ◌-◌, ◌<◌, ◌≤◌, true, false, List, ◌++◌, length, take, drop, set, is_some, Some, None, Ok, Err, Ordering, sym, ap, ◌∙◌, arith}
use Rattle.std.specs.List.{insert, remove}
use Rattle.std.proofs.Math.Seq.{take-set-lt}
use Rattle.std.proofs.lemmas.List.{set_split, take-append-drop, take-append-le, take-take, take_all, length-take-le}
use Rattle.std.proofs.lemmas.List.Edits.{length-insert}
use Rattle.order.specs.declared.record.Record.{Record}
use Rattle.order.specs.Assoc.{rising, lookup, put}
use Rattle.table.specs.Places.{below, Sought}
use Rattle.table.proofs.Places.{put_found, put_missing}

module _ {K V : Type 0} (c : K → K → Ordering) (k : K) where
  module _ (rows : List (Record K V)) where
    pub set_is_put : (n : ℕ) (v : V) → n < length rows → n ≡ below c k rows → is_some (lookup c k rows) ≡ true → set rows n (record { key = k; value = v }) ≡ put c k (Some v) rows
    set_is_put n v h e f =
        ap (λ i. set rows i (record { key = k; value = v })) e ∙ set_split rows (below c k rows) (record { key = k; value = v }) (omega arith) ∙ sym (put_found c k (Some v) rows f)

    pub inserted_is_put : (n : ℕ) (v : V) → n ≡ below c k rows → is_some (lookup c k rows) ≡ false → insert rows n (record { key = k; value = v }) ≡ put c k (Some v) rows
    inserted_is_put n v e f = ap (λ i. insert rows i (record { key = k; value = v })) e ∙ sym (put_missing c k (Some v) rows f)

    pub removed_is_put : (n : ℕ) → n ≡ below c k rows → is_some (lookup c k rows) ≡ true → remove rows n ≡ put c k None rows
    removed_is_put n e f = ap (remove rows) e ∙ sym (put_found c k None rows f)

    pub unchanged_is_put : is_some (lookup c k rows) ≡ false → rows ≡ put c k None rows
    unchanged_is_put f = sym (put_missing c k None rows f ∙ take-append-drop (below c k rows) rows)

  module _ (old : List (Record K V)) (len at : ℕ) (up : rising c (take len old) ≡ true) where
    -- the record at the key's place is overwritten
    pub overwritten : (v : V) → len ≤ length old → Sought c k (take len old) (Ok at) → take len (set old at (record { key = k; value = v })) ≡ put c k (Some v) (take len old)
    overwritten v le s =
        let p = s.1 up in
        take-set-lt len old at (record { key = k; value = v }) (omega (arith, s.0, length-take-le len old le)) ∙ set_is_put (take len old) at v s.0 p.0 p.1

    -- one is inserted there
    pub inserted : (v : V) (new : List (Record K V)) → len < length old → Sought c k (take len old) (Err at) →
        new ≡ insert (take (length (take (len + 1) old) - 1) (take (len + 1) old)) at (record { key = k; value = v }) →
        take (len + 1) (new ++ drop (len + 1) old) ≡ put c k (Some v) (take len old)
    inserted v new room s e =
        let p = s.1 up in
        let r : Record K V = record { key = k; value = v } in
        let used : length (take (len + 1) old) ≡ len + 1 = length-take-le (len + 1) old (omega arith) in
        let one : length (take (len + 1) old) - 1 ≡ len = omega arith in
        let before : take (length (take (len + 1) old) - 1) (take (len + 1) old) ≡ take len old = ap (λ n. take n (take (len + 1) old)) one ∙ take-take len (len + 1) old (omega arith) in
        let is : new ≡ insert (take len old) at r = e ∙ ap (λ l. insert l at r) before in
        let short : length (take len old) ≡ len = length-take-le len old (omega arith) in
        let long : length new ≡ len + 1 = ap length is ∙ length-insert (take len old) at r (omega (arith, s.0)) ∙ ap (λ n. n + 1) short in
        take-append-le (len + 1) new (drop (len + 1) old) (omega arith) ∙ take_all (len + 1) new (omega arith) ∙ is ∙ inserted_is_put (take len old) at v p.0 p.1

    -- the one there is taken out
    pub taken_out : (new : List (Record K V)) → len ≤ length old → Sought c k (take len old) (Ok at) → take (length (take len old) - 1) new ≡ remove (take len old) at → length new ≡ length (take len old) →
        take (len - 1) (new ++ drop len old) ≡ put c k None (take len old)
    taken_out new le s e same =
        let p = s.1 up in
        let short : length (take len old) ≡ len = length-take-le len old le in
        take-append-le (len - 1) new (drop len old) (omega arith) ∙ ap (λ n. take (n - 1) new) (sym short) ∙ e ∙ removed_is_put (take len old) at p.0 p.1
