-- What is asked of records, or done to them, is asked of their entries, or done to them.
use Rattle.std.proofs.Common.{◌≡◌, ℕ, List, [], ◌∷◌, Some, None, Option, Ordering, Less, Equal, Greater, refl, ap}
use Rattle.order.specs.declared.record.Record.{Record}
use Rattle.order.specs.Assoc.{by, lookup, bind, put, later, first}
use Rattle.complex.specs.Simplex.{colex}
use Rattle.simplex.specs.declared.simplex.Simplex.{Simplex}
use Rattle.simplex.specs.Simplexes.{vertices, by_vertices, found}
use Rattle.table_store.specs.Entries.{entries}

pub lookup_entries : (k : Simplex) (rows : List (Record Simplex ℕ)) → lookup colex (vertices k) (entries rows) ≡ lookup by_vertices k rows
lookup_entries k [] = refl
lookup_entries k (r ∷ rs) = ap (λ o. by (by_vertices r.key k) o (Some r.value) None) (lookup_entries k rs)

bind_entries : (k : Simplex) (o : Option ℕ) (rows : List (Record Simplex ℕ)) → entries (bind k o rows) ≡ bind (vertices k) o (entries rows)
bind_entries k None rows = refl
bind_entries k (Some m) rows = refl

pub put_entries : (k : Simplex) (o : Option ℕ) (rows : List (Record Simplex ℕ)) → entries (put by_vertices k o rows) ≡ put colex (vertices k) o (entries rows)
put_entries k o [] = bind_entries k o []
put_entries k o (r ∷ rs) = go (put_entries k o rs) (by_vertices r.key k)
  where
    go : entries (put by_vertices k o rs) ≡ put colex (vertices k) o (entries rs) → (a : Ordering) →
        entries (by a (r ∷ put by_vertices k o rs) (bind k o rs) (bind k o (r ∷ rs))) ≡ by a (record { key = vertices r.key; value = r.value } ∷ put colex (vertices k) o (entries rs)) (bind (vertices k) o (entries rs)) (bind (vertices k) o (entries (r ∷ rs)))
    go more Less = ap (λ es. record { key = vertices r.key; value = r.value } ∷ es) more
    go more Equal = bind_entries k o rs
    go more Greater = bind_entries k o (r ∷ rs)

pub later_entries : (k : Simplex) (rows : List (Record Simplex ℕ)) → entries (later by_vertices k rows) ≡ later colex (vertices k) (entries rows)
later_entries k [] = refl
later_entries k (r ∷ rs) = go (later_entries k rs) (by_vertices r.key k)
  where
    go : entries (later by_vertices k rs) ≡ later colex (vertices k) (entries rs) → (a : Ordering) →
        entries (by a (later by_vertices k rs) rs (r ∷ rs)) ≡ by a (later colex (vertices k) (entries rs)) (entries rs) (entries (r ∷ rs))
    go more Less = more
    go more Equal = refl
    go more Greater = refl

pub first_entries : (rows : List (Record Simplex ℕ)) → found (first rows) ≡ first (entries rows)
first_entries [] = refl
first_entries (r ∷ rs) = refl
