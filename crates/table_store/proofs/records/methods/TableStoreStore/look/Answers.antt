-- A look-up in the table is one in the model.
use Rattle.std.proofs.Common.{unwrap_or, sym, ap, ◌∙◌}
use Rattle.table.specs.Held.{held}
use Rattle.table_store.proofs.Entries.{lookup_entries}
use Rattle.table_store.proofs.records.methods.TableStoreStore.look.Goals as goal

pub returns : goal.returns
returns c =
    let store = c.args.self.now in
    c.unwrap_or.ensures ∙ ap (λ o. unwrap_or o 0) (c.look.ensures ∙ sym (lookup_entries c.args.s.now (held store.table.table)))
