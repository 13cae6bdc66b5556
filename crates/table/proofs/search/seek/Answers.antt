-- The binary search of the library, by the key of each record.
use Rattle.std.proofs.Common.{rules}
use Rattle.std.proofs.lemmas.Fn.{always_returns_same}
use Rattle.table.proofs.Places.{sought}
use Rattle.table.proofs.search.seek.Goals as goal

pub returns : goal.returns
returns g c =
    let rank = g.K.Order.ranks in
    let m = g.met.K.Order in
    let k = c.args.key.now in
    let found = c.binary_search_by in
    sought rank (record { antisymm = m.flip; trans = m.chain; congr = m.alike }) k c.args.rows.now found.result found.ensures.bound
    (found.ensures.position (λ r. rank r.key k) (always_returns_same _ _ _ (λ a r f' called. search rules)))
