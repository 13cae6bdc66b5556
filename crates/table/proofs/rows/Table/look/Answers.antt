-- The value at the place of a held key.
use Rattle.std.proofs.Common.{get_or, Some, Ok, sym, ap, ◌∙◌, subst}
use Rattle.table.specs.Held.{held}
use Rattle.table.specs.Places.{Sought}
use Rattle.table.proofs.Places.{lookup_found}
use Rattle.table.proofs.rows.Table.look.Goals as goal

pub returns-in-Ok : goal.returns-in-Ok
returns-in-Ok g c good =
    let rank = g.K.Order.ranks in
    let k = c.args.key.now in
    let at = c.in-Ok.at in
    let d = c.index-rows-at.result in
    let rows = held c.args.self.now in
    let is = c.rows-rows.ensures.is in
    let sought : Sought rank k rows (Ok at) = subst (λ xs. Sought rank k xs (Ok at)) is c.in-Ok.ensures in
    let there = sought.1 good.1 in
    ap (λ xs. Some (get_or xs at d).value) is ∙ sym (lookup_found rank k rows d there.1 ∙ ap (λ i. Some (get_or rows i d).value) (sym there.0))
