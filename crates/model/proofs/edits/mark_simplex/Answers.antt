-- In a legal model the faces of a held simplex are held. What marking them leaves is searched for.
use Rattle.std.proofs.Common.{ℕ, ◌<◌, List, rules}
use Rattle.complex.specs.Model.{mask}
use Rattle.complex.specs.Simplex.{Face}
use Rattle.simplex.specs.Simplexes.{vertices}
use Rattle.model.proofs.Changes.{faces_held}
use Rattle.model.proofs.edits.mark_simplex.Goals as goal

pub returns-clause-after : goal.returns-clause-after
returns-clause-after g c legal =
    let before = g.S.Store.contents c.args.store.now in
    let s = vertices c.args.simplex.now in
    let some : 0 < mask before.model s = search rules in
    let held : (q : List ℕ) → Face q s → 0 < mask before.model q = faces_held before.model s legal some in
    search rules
