-- The next key of the table is the next simplex of the model.
use Rattle.std.proofs.Common.{sym, ap, ◌∙◌}
use Rattle.order.specs.Assoc.{first, later, next}
use Rattle.complex.specs.Simplex.{colex}
use Rattle.simplex.specs.Simplexes.{by_vertices, found, vertices_or_none}
use Rattle.table.specs.Held.{held}
use Rattle.table_store.specs.Entries.{entries}
use Rattle.table_store.proofs.Entries.{first_entries, later_entries}
use Rattle.table_store.proofs.records.methods.TableStoreStore.after.Goals as goal

pub returns-in-Some : goal.returns-in-Some
returns-in-Some c =
    let store = c.args.self.now in
    let rows = held store.table.table in
    let s = c.in-Some.s in
    ap found c.after.ensures
    ∙ first_entries (later by_vertices s rows)
    ∙ ap first (later_entries s rows)
    ∙ ap (λ o. next colex (vertices_or_none o) (entries rows)) (sym c.in-Some.is)
