-- There is one record for each simplex.
use Rattle.std.proofs.Common.{arith}
use Rattle.table.specs.Held.{held}
use Rattle.table_store.specs.Entries.{length_entries}
use Rattle.table_store.proofs.records.methods.TableStoreStore.held.Goals as goal

pub returns : goal.returns
returns c = omega (arith, length_entries (held c.args.self.now.table.table))
