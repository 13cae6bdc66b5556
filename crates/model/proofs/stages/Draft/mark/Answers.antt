use Rattle.std.proofs.Common.{◌≢◌, ap, ◌∙◌, rules}
use Rattle.simplex.specs.Simplexes.{vertices}
use Rattle.model.specs.Calls.{mark_simplex, marked_simplex}
use Rattle.model.proofs.Changes.{marks, known_part, marked_is_legal}
use Rattle.model.proofs.stages.Draft.mark.Goals as goal

pub invariant_of-self-2 : goal.invariant_of-self-2
invariant_of-self-2 g c =
    let self = c.args.self.now in
    let s = c.in_ok-simplex.simplex in
    record { legal = marked_is_legal g.S.Store.contents self.store _ c.in_ok-part.part.number (vertices s) s.rising (g.S.Store.stored self.store) self.legal (c.mark_simplex.ensures.after self.legal) }

pub returns : goal.returns
returns g c =
    let self = c.args.self.now in
    let before = g.S.Store.contents self.store in
    let stored = g.S.Store.stored self.store in
    let p = c.in_ok-part.part.number in
    let s = c.in_ok-simplex.simplex in
    let known = known_part p c.args.part c.in_ok-part.ensures in
    let legal = marked_is_legal g.S.Store.contents self.store _ p (vertices s) s.rising stored self.legal (c.mark_simplex.ensures.after self.legal) in
    let marked_part : c.args.part ≢ 0 = search rules in
    marks before _ _ (vertices s) _ _ marked_part known.1 stored self.legal legal c.in_ok-simplex.ensures
    (c.mark_simplex.ensures.value ∙ ap (λ n. mark_simplex before n (vertices s)) known.0) (c.mark_simplex.ensures.after self.legal ∙ ap (λ n. marked_simplex before n (vertices s)) known.0)
