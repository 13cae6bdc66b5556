-- The later records start after the key, or at its place where it is missing.
use Rattle.std.proofs.Common.{◌≡◌, suc, ◌+◌, drop, sym, ap, ◌∙◌, arith}
use Rattle.table.specs.Places.{below}
use Rattle.table.proofs.Places.{later_found, later_missing}
use Rattle.table.proofs.search.past.Goals as goal

pub returns-in-Ok : goal.returns-in-Ok
returns-in-Ok g c up =
    let rank = g.K.Order.ranks in
    let k = c.args.key.now in
    let rows = c.args.rows.now in
    let sought = c.in-Ok.ensures.1 up in
    let next : suc (below rank k rows) ≡ c.in-Ok.at + 1 = omega (arith, sought.0) in
    later_found rank k rows sought.1 ∙ ap (λ n. drop n rows) next

pub returns-in-Err : goal.returns-in-Err
returns-in-Err g c up =
    let rows = c.args.rows.now in
    let sought = c.in-Err.ensures.1 up in
    later_missing g.K.Order.ranks c.args.key.now rows sought.1 ∙ ap (λ n. drop n rows) (sym sought.0)
