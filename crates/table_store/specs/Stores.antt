-- What a table store holds, and that it is what every store holds.
use Rattle.std.specs.Prelude.{◌≡◌, ℕ, min, length}
use Rattle.std.proofs.Common.{◌∙◌, arith}
use Rattle.std.proofs.lemmas.List.{length-take-le}
use Rattle.table.specs.Held.{held}
use Rattle.store.specs.Contents.{Contents, Stored}
use Rattle.table_store.specs.declared.records.TableStore.{TableStore}
use Rattle.table_store.specs.Entries.{entries, length_entries, rising_entries}
use Rattle.table_store.specs.Limits.{most_records, vertex_range}

-- the entries of the records in use
abbrev pub contents : TableStore → Contents
contents t = record { model = entries (held t.table.table); limit = t.limit; range = vertex_range }

-- the limit of a store over so many records
abbrev pub limit_over : ℕ → ℕ
limit_over n = min n most_records

-- as many simplexes are held as records are in use
pub contents_length : (t : TableStore) → length (contents t).model ≡ t.table.table.len
contents_length t = length_entries (held t.table.table) ∙ length-take-le t.table.table.len t.table.table.records.now t.table.good.0

pub contents_stored : (t : TableStore) → Stored (contents t)
contents_stored t =
    record {
      sorted = rising_entries (held t.table.table) ∙ t.table.good.1;
      fit = t.fit;
      room = omega (arith, contents_length t, t.used);
      few = omega (arith, t.few);
      narrow = omega arith;
    }
