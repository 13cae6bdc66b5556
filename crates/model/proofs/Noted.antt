-- Writing the pairs of a record one after another, as two walks meet the bases.
use Rattle.std.proofs.Common.{◌≡◌, ℕ, ◌+◌, ◌-◌, ◌<◌, true, false, List, [], ◌∷◌, ◌++◌, length, Some, sym, refl, ap, ◌∙◌, ap₂, append_assoc, arith}
use Rattle.std.proofs.lemmas.Bool.{leb-false, lt-leb}
use Rattle.complex.specs.Model.{Model, mask, Legal}
use Rattle.complex.specs.Simplex.{plus}
use Rattle.collapse.specs.Laws.{Sound}
use Rattle.collapse.specs.Split.{former, pairs_of}
use Rattle.store.specs.Contents.{Contents, Stored}
use Rattle.trail.specs.Notes.{capacity, record_length, room_used, has_room}
use Rattle.trail.specs.Past.{Past, pending, Paired}
use Rattle.model.specs.Notes.{bases_without, merged_lists, head, past_base, lesser}
use Rattle.history.proofs.Fitted.{stored_sound}
use Rattle.model.proofs.Noting.{Ordered, merged_step, past_ordered, without_ordered, pairs_merged}

-- the pairs that are still to be written, with these bases left over u, and those over v
abbrev pub left_over : ℕ → ℕ → Model → List (List ℕ) → List (List ℕ) → List (ℕ × ℕ)
left_over u v M xs ys = former u v M (merged_lists xs ys)

-- n pairs are written, and what is left over makes up all the pairs
pub record Noted (u v : ℕ) (M : Model) (before now : Past) (n : ℕ) (xs ys : List (List ℕ)) : Type 0 where
  pub kept : now.notes ≡ before.notes
  pub pairs : pending now n ++ left_over u v M xs ys ≡ pairs_of u v M
  pub count : n + length (left_over u v M xs ys) ≡ length (pairs_of u v M)
  pub ordered_u : Ordered xs
  pub ordered_v : Ordered ys

-- all bases are left at first
pub noted_first : (u v : ℕ) (c : Contents) (trail : Past) → (u ≡ v → ⊥) → Stored c → Legal c.model → Noted u v c.model trail trail 0 (bases_without u v c.model) (bases_without v u c.model)
noted_first u v c trail n st legal = record {
  kept = refl;
  pairs = all;
  count = omega (arith, ap length all);
  ordered_u = without_ordered c.model st.sorted sound.positive sound.shaped u v;
  ordered_v = without_ordered c.model st.sorted sound.positive sound.shaped v u;
}
  where
    sound : Sound c.model
    sound = stored_sound c st legal

    all : left_over u v c.model (bases_without u v c.model) (bases_without v u c.model) ≡ pairs_of u v c.model
    all = sym (pairs_merged u v n c.model sound)

module _ (u v : ℕ) (M : Model) (before now : Past) (n : ℕ) (xs ys : List (List ℕ)) (noted : Noted u v M before now n xs ys) where
  module _ (z : List ℕ) (least : Some z ≡ lesser (head xs) (head ys)) where
    -- the pair of the least base comes first
    left_over_step : left_over u v M xs ys ≡ (mask M (plus u z), mask M (plus v z)) ∷ left_over u v M (past_base z xs) (past_base z ys)
    left_over_step = ap (former u v M) (merged_step xs ys z noted.ordered_u noted.ordered_v least)

    -- the pairs after it
    abbrev rest : List (ℕ × ℕ)
    rest = left_over u v M (past_base z xs) (past_base z ys)

    pub noted_on : (a b : ℕ) (then : Past) (xs' ys' : List (List ℕ)) → a ≡ mask M (plus u z) → b ≡ mask M (plus v z) → has_room now.notes (n + 1) ≡ true → Paired n a b now then →
        xs' ≡ past_base z xs → ys' ≡ past_base z ys → Noted u v M before then (n + 1) xs' ys'
    noted_on a b then xs' ys' e f room done x y = rw (x, y) (record {
      kept = done.notes ∙ noted.kept;
      pairs =
          ap (λ ps. ps ++ rest) (done.written room)
          ∙ append_assoc (pending now n) ((a, b) ∷ []) rest
          ∙ ap₂ (λ x y. pending now n ++ ((x, y) ∷ rest)) e f
          ∙ ap (λ ps. pending now n ++ ps) (sym left_over_step)
          ∙ noted.pairs;
      count = let c = noted.count in let l = ap length left_over_step in omega arith;
      ordered_u = past_ordered z xs noted.ordered_u;
      ordered_v = past_ordered z ys noted.ordered_v;
    })

    pub fewer_left : (xs' ys' : List (List ℕ)) → xs' ≡ past_base z xs → ys' ≡ past_base z ys → length (left_over u v M xs' ys') < length (left_over u v M xs ys)
    fewer_left xs' ys' x y = rw (x, y) (let l = ap length left_over_step in omega arith)

    -- a record that has no room for its next pair has none for all
    pub no_room : has_room now.notes (n + 1) ≡ false → has_room before.notes (length (pairs_of u v M)) ≡ false
    no_room full =
        let c = noted.count in
        let l = ap length left_over_step in
        let small = leb-false (record_length (n + 1)) (capacity - room_used now.notes) full in
        ap (λ ns. has_room ns (length (pairs_of u v M))) (sym noted.kept) ∙ lt-leb (record_length (length (pairs_of u v M))) (capacity - room_used now.notes) (omega arith)
