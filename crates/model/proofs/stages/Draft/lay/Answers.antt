-- What the lay answers and leaves is searched for.
use Rattle.std.proofs.Common.{rules}
use Rattle.simplex.specs.Simplexes.{vertices}
use Rattle.model.proofs.Changes.{lays, laid_is_legal}
use Rattle.model.proofs.stages.Draft.lay.Goals as goal

pub invariant_of-self-2 : goal.invariant_of-self-2
invariant_of-self-2 g c =
    let self = c.args.self.now in
    let s = c.in_ok-simplex.simplex in
    record { legal = laid_is_legal g.S.Store.contents self.store _ (vertices s) s.rising (g.S.Store.stored self.store) self.legal (search rules) }

pub returns : goal.returns
returns g c =
    let self = c.args.self.now in
    let s = c.in_ok-simplex.simplex in
    let stored = g.S.Store.stored self.store in
    lays _ _ _ _ _ stored (laid_is_legal g.S.Store.contents self.store _ (vertices s) s.rising stored self.legal (search rules)) c.in_ok-simplex.ensures (search rules) (search rules)
