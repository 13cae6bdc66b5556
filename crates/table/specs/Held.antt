-- What a table holds, and what a change leaves. Throughout, c is the order of the keys.
use Rattle.std.specs.Prelude.{◌≡◌, ℕ, ◌≤◌, true, false, cond, ◌||◌, List, length, take, is_ok, is_some, Some, None, Result, nat_lt}
use Rattle.std.specs.declared.cmp.Ordering.{Ordering}
use Rattle.order.specs.declared.record.Record.{Record}
use Rattle.order.specs.Assoc.{rising, lookup, put}
use Rattle.table.specs.declared.rows.Table.{Table}
use Rattle.table.specs.declared.rows.TableFull.{TableFull}

-- the records in use
abbrev pub held : {K V : Type 0} → Table K V → List (Record K V)
held t = take t.len t.records.now

-- how many records the caller lent
abbrev pub room : {K V : Type 0} → Table K V → ℕ
room t = length t.records.now

-- no more records are in use than there are, and they rise
abbrev pub Good : {K V : Type 0} → (K → K → Ordering) → Table K V → Type 0
Good c t = (t.len ≤ room t) × (rising c (held t) ≡ true)

-- what giving k the value v leaves, where r is the answer
pub record Stored {K V : Type 0} (c : K → K → Ordering) (k : K) (v : V) (s t : Table K V) (r : Result (Unit {0}) TableFull) : Type 0 where
  pub fits : is_ok r ≡ (is_some (lookup c k (held s)) || nat_lt s.len (room s))
  pub holds : held t ≡ cond (is_ok r) (put c k (Some v) (held s)) (held s)
  pub good : Good c t
  pub long : t.len ≡ length (held t)
  pub untouched : is_ok r ≡ false → t.records.now ≡ s.records.now

-- what taking k out leaves
pub record Removed {K V : Type 0} (c : K → K → Ordering) (k : K) (s t : Table K V) : Type 0 where
  pub holds : held t ≡ put c k None (held s)
  pub good : Good c t
  pub long : t.len ≡ length (held t)
