-- A change at one key of its table leaves a table store a table store.
use Rattle.std.proofs.Common.{◌≡◌, ℕ, ◌+◌, ◌<◌, ◌≤◌, true, cond, ◌||◌, ltb, [], length, is_ok, is_some, Some, None, Option, unwrap_or, sym, refl, ap, ◌∙◌, arith, Result}
use Rattle.std.proofs.lemmas.Bool.{lt-ltb}
use Rattle.order.specs.Assoc.{lookup, bind, put, weigh}
use Rattle.order.proofs.Maps.{length_is_total, total_put}
use Rattle.complex.specs.Model.{mask, present, write}
use Rattle.complex.specs.Simplex.{colex}
use Rattle.complex.proofs.Order.{colex_lawful, colex_exact}
use Rattle.simplex.specs.declared.simplex.Simplex.{Simplex}
use Rattle.simplex.specs.Simplexes.{vertices, by_vertices}
use Rattle.table.specs.declared.rows.Table.{Table}
use Rattle.table.specs.declared.rows.TableFull.{TableFull}
use Rattle.table.specs.Held.{held, room, Stored, Removed}
use Rattle.store.specs.Contents.{Contents, fits, holding}
use Rattle.table_store.specs.declared.records.TableStore.{TableStore}
use Rattle.table_store.specs.Entries.{entries, length_entries}
use Rattle.table_store.specs.Limits.{most_records, vertex_range}
use Rattle.table_store.specs.Stores.{contents, contents_length, contents_stored}
use Rattle.table_store.proofs.Entries.{lookup_entries, put_entries}
use Rattle.table_store.proofs.Fits.{put_keeps_fits}

-- the facts of a table store, of another table under the same limit
pub record Kept (t : TableStore) (new : Table Simplex ℕ) : Type 0 where
  pub used : new.len ≤ t.limit
  pub lent : t.limit ≤ room new
  pub few : t.limit ≤ most_records
  pub fit : fits vertex_range (entries (held new)) ≡ true

-- new is the store's table with the value o at k
pub record Changed (t : TableStore) (k : Simplex) (o : Option ℕ) (new : Table Simplex ℕ) : Type 0 where
  pub holds : held new ≡ put by_vertices k o (held t.table.table)
  pub long : new.len ≡ length (held new)
  pub lent : room new ≡ room t.table.table

-- 1 where a mask is found
abbrev there : Option ℕ → ℕ
there None = 0
there (Some m) = 1

there_weighs : {K : Type 0} (k : K) (o : Option ℕ) → weigh (λ _ _. 1) k o ≡ there o
there_weighs k None = refl
there_weighs k (Some m) = refl

module _ (t : TableStore) (k : Simplex) (new : Table Simplex ℕ) where
  abbrev found : Option ℕ
  found = lookup colex (vertices k) (contents t).model

  changed_model : (o : Option ℕ) → Changed t k o new → entries (held new) ≡ put colex (vertices k) o (contents t).model
  changed_model o h = ap entries h.holds ∙ put_entries k o (held t.table.table)

  changed_length : (o : Option ℕ) → Changed t k o new → new.len + there found ≡ t.table.table.len + there o
  changed_length o h =
      let M = (contents t).model in
      let sums = total_put colex colex_lawful colex_exact (λ _ _. 1) M (vertices k) o (contents_stored t).sorted in
      let after = h.long ∙ sym (length_entries (held new)) ∙ ap length (changed_model o h) in
      omega (arith, sums, after, contents_length t, length_is_total M, length_is_total (put colex (vertices k) o M), there_weighs (vertices k) found, there_weighs (vertices k) o)

  changed_kept : (o : Option ℕ) → Changed t k o new → fits vertex_range (bind (vertices k) o []) ≡ true → t.table.table.len + there o ≤ t.limit + there found → Kept t new
  changed_kept o h fit roomy =
      let same = ap (fits vertex_range) (changed_model o h) in
      record {
        used = omega (arith, changed_length o h);
        lent = omega (arith, h.lent, t.lent);
        few = t.few;
        fit = same ∙ put_keeps_fits vertex_range (vertices k) o (contents t).model fit t.fit;
      }

  pub changed_contents : (o : Option ℕ) (m : ℕ) → Changed t k o new → present m ≡ o →
      ◌≡◌ {A = Contents} (record { model = entries (held new); limit = t.limit; range = vertex_range }) (holding (contents t) (write (contents t).model (vertices k) m))
  changed_contents o m h e =
      ap (holding (contents t)) (changed_model o h ∙ sym (ap (λ p. put colex (vertices k) p (contents t).model) e))

  pub removed_kept : Changed t k None new → Kept t new
  removed_kept h = changed_kept None h refl (omega (arith, t.used))

  module _ (free : mask (contents t).model (vertices k) ≡ 0 → t.table.table.len < t.limit) where
    roomy : t.table.table.len + 1 ≤ t.limit + there found
    roomy = go found free
      where
        go : (o : Option ℕ) → (unwrap_or o 0 ≡ 0 → t.table.table.len < t.limit) → t.table.table.len + 1 ≤ t.limit + there o
        go None f = omega (arith, f refl)
        go (Some m) f = omega (arith, t.used)

    -- the table takes a key that it holds, or for which it has room
    pub taken : (is_some (lookup by_vertices k (held t.table.table)) || ltb t.table.table.len (room t.table.table)) ≡ true
    taken = ap (λ o. is_some o || ltb t.table.table.len (room t.table.table)) (sym (lookup_entries k (held t.table.table))) ∙ go found free
      where
        go : (o : Option ℕ) → (unwrap_or o 0 ≡ 0 → t.table.table.len < t.limit) → (is_some o || ltb t.table.table.len (room t.table.table)) ≡ true
        go None f = lt-ltb t.table.table.len (room t.table.table) (omega (arith, f refl, t.lent))
        go (Some m) f = refl

    -- so putting it succeeds
    pub put_succeeds : (m : ℕ) (r : Result (Unit {0}) TableFull) → Stored by_vertices k m t.table.table new r → is_ok r ≡ true
    put_succeeds m r h = h.fits ∙ taken

    pub put_kept : (m : ℕ) → Changed t k (Some m) new → fits vertex_range (bind (vertices k) (Some m) []) ≡ true → Kept t new
    put_kept m h fit = changed_kept (Some m) h fit roomy

    pub put_changed : (m : ℕ) (r : Result (Unit {0}) TableFull) → Stored by_vertices k m t.table.table new r → room new ≡ room t.table.table → Changed t k (Some m) new
    put_changed m r h lent =
        let holds = ap (λ b. cond b (put by_vertices k (Some m) (held t.table.table)) (held t.table.table)) (h.fits ∙ taken) in
        record { holds = h.holds ∙ holds; long = h.long; lent = lent }

  pub removed_changed : Removed by_vertices k t.table.table new → room new ≡ room t.table.table → Changed t k None new
  removed_changed h lent = record { holds = h.holds; long = h.long; lent = lent }
