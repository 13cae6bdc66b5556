use Rattle.std.proofs.Common.{◌≡◌, ℕ, List, Some, sym, ap, ◌∙◌}
use Rattle.std.proofs.lemmas.Bool.{cond-true}
use Rattle.complex.specs.Simplex.{less}
use Rattle.simplex.specs.Simplexes.{vertices}
use Rattle.model.specs.Parts.{parts_left}
use Rattle.model.specs.Ties.{shows, tie_in, tie}
use Rattle.model.proofs.Failing.{first_among, first_among_all, is_none, tie_among, part_passed, part_found}
use Rattle.model.proofs.merges.Merge.find_tie.Goals as goal

pub loop-part-preserved-then-not-is_in : goal.loop-part-preserved-then-not-is_in
loop-part-preserved-then-not-is_in g c =
    let M = (g.S.Store.contents c.args.store.now).model in
    let u = c.args.self.u in
    let v = c.args.self.v in
    let p = c.in-Some.part.number in
    part_passed p (parts_left c.next.new.self) u v M (tie u v M)
    (is_none (tie_in p u v M) (sym (c.failing_parts-failing.ensures p c.in-Some.part.known) ∙ sym c.if-not-is_in.ensures))
    (sym (ap (λ ps. tie_among ps u v M) c.in-Some.ensures.steps) ∙ c.loop-part.invariant)

pub loop-s-init : goal.loop-s-init
loop-s-init g c =
    let now = g.S.Store.contents c.args.store.now in
    let f = shows c.in-Some.part.number c.args.self.u c.args.self.v now.model in
    ap (first_among c.args.self.u f) (c.into_iter-s-iterator.ensures.into_iter_gives ∙ c.of-s-items.ensures) ∙ first_among_all c.args.self.u f now.model

pub returns-then-is_in : goal.returns-then-is_in
returns-then-is_in g c =
    let M = (g.S.Store.contents c.args.store.now).model in
    let u = c.args.self.u in
    let v = c.args.self.v in
    let p = c.in-Some.part.number in
    let s = vertices c.in-Some-s.s in
    let passed = sym (c.failing_at.ensures p c.in-Some.part.known) ∙ sym c.if-is_in.ensures in
    let found : tie_in p u v M ≡ Some (less u s) = sym c.loop-s.invariant ∙ ap (first_among u (shows p u v M)) c.in-Some-s.ensures.steps ∙ cond-true _ _ _ passed in
    ap (λ (t : List ℕ). Some (p, t)) c.without.ensures
    ∙ part_found p (parts_left c.next.new.self) u v M (less u s) (tie u v M) found (sym (ap (λ ps. tie_among ps u v M) c.in-Some.ensures.steps) ∙ c.loop-part.invariant)
