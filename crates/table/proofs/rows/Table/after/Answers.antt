-- The first of the later records.
use Rattle.std.proofs.Common.{◌≡◌, Some, None, sym, ap, ◌∙◌}
use Rattle.std.proofs.lemmas.List.{at_drop_more, at_drop_all}
use Rattle.order.specs.Assoc.{rising, first, next}
use Rattle.table.proofs.rows.Table.after.Goals as goal

pub returns-in_err-get : goal.returns-in_err-get
returns-in_err-get g c good =
    let rank = g.K.Order.ranks in
    let k = c.args.key.now in
    let used = c.rows-rows.result.now in
    let is = c.rows-rows.ensures.is in
    let past = c.past.ensures (ap (rising rank) is ∙ good.1) in
    let none : next rank k used ≡ None = ap first past ∙ at_drop_all first used c.past.result c.in_err-get.ensures.lookup.3 in
    c.from_residual.ensures ∙ sym none ∙ ap (next rank k) is

pub returns : goal.returns
returns g c good =
    let rank = g.K.Order.ranks in
    let k = c.args.key.now in
    let used = c.rows-rows.result.now in
    let is = c.rows-rows.ensures.is in
    let past = c.past.ensures (ap (rising rank) is ∙ good.1) in
    let finds = c.in_ok-get.ensures.lookup in
    let x = c.in_ok-get.field-0.now in
    let some : next rank k used ≡ Some x.key = ap first past ∙ at_drop_more first used c.past.result x finds.3.0 ∙ ap (λ r. Some r.key) (sym finds.1) in
    sym some ∙ ap (next rank k) is
