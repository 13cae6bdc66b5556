use Rattle.std.proofs.Common.{◌≡◌, ◌||◌, is_some, ap, ◌∙◌, subst}
use Rattle.complex.specs.Mask.{bit}
use Rattle.complex.proofs.Masks.{bit_of_none}
use Rattle.simplex.specs.Simplexes.{vertices}
use Rattle.model.specs.Ties.{shows, tie_in}
use Rattle.model.proofs.Failing.{first_among, first_among_all, some_from_here_on}
use Rattle.model.proofs.merges.Merge.failing_parts.Goals as goal

pub loop-s-init : goal.loop-s-init
loop-s-init g c p l =
    let now = g.S.Store.contents c.args.store.now in
    let u = c.args.self.u in
    let f = shows p u c.args.self.v now.model in
    ap (λ b. b || is_some (first_among u f c.into_iter-s-iterator.result)) (bit_of_none p)
    ∙ ap (λ ks. is_some (first_among u f ks)) (c.into_iter-s-iterator.ensures.into_iter_gives ∙ c.of-s-items.ensures)
    ∙ ap is_some (first_among_all u f now.model)

pub loop-s-preserved : goal.loop-s-preserved
loop-s-preserved g c p l =
    let now = g.S.Store.contents c.args.store.now in
    let u = c.args.self.u in
    let f = shows p u c.args.self.v now.model in
    some_from_here_on u f (vertices c.in-Some.s) c.next.new.self p c.loop-s.parts c.failing_at-parts.result (is_some (tie_in p u c.args.self.v now.model)) (c.failing_at-parts.ensures p l)
    (subst (λ ks. (bit p c.loop-s.parts || is_some (first_among u f ks)) ≡ is_some (tie_in p u c.args.self.v now.model)) c.in-Some.ensures.steps (c.loop-s.invariant p l))
