use Rattle.std.proofs.Common.{[], ap, ◌∙◌}
use Rattle.model.specs.Notes.{ahead, bases_without}
use Rattle.store.proofs.Walks.{all_later}
use Rattle.model.proofs.Ahead.{ahead_of_first}
use Rattle.model.proofs.bases.Bases.of.Goals as goal

pub returns : goal.returns
returns g c =
    let now = g.S.Store.contents c.args.store.now in
    let stored = g.S.Store.stored c.args.store.now in
    let u = c.args.merge.u in
    let v = c.args.merge.v in
    ap (ahead u v now.model) c.next_sided.ensures ∙ ahead_of_first u v now.model stored.sorted [] ∙ ap (bases_without u v) (all_later now.range now.model stored.fit)
