use Rattle.std.proofs.Common.{sym, ap, ◌∙◌, inl, inr}
use Rattle.complex.specs.Model.{mask}
use Rattle.complex.specs.Simplex.{plus}
use Rattle.complex.proofs.Faces.{rises_rising}
use Rattle.simplex.specs.Simplexes.{vertices}
use Rattle.model.proofs.Failing.{tells_nothing, tells_by_masks}
use Rattle.model.proofs.merges.Merge.failing_at.Goals as goal
use Rattle.model.proofs.merges.Merge.failing_at.Goals.{then-not-has-via-then-not-has, then-not-has-via-else-not-has+then-has}

pub returns-then-not-has : goal.returns-then-not-has
returns-then-not-has g c p l =
    let s = c.args.s.now in
    tells_nothing p c.args.self.u c.args.self.v (g.S.Store.contents c.args.store.now).model (vertices s) (rises_rising (vertices s) s.rising)
    (elim c.then-not-has.branch [ then-not-has-via-then-not-has w ↦ inl (sym c.has.ensures ∙ w.if-not-has.true) | then-not-has-via-else-not-has+then-has w ↦ inr (sym w.has-else-not-has.ensures ∙ w.if-has.true) ])

pub returns : goal.returns
returns g c p l =
    let s = c.args.s.now in
    tells_by_masks p c.args.self.u c.args.self.v (g.S.Store.contents c.args.store.now).model (vertices s) (rises_rising (vertices s) s.rising) l
    (sym c.has.ensures ∙ c.if-not-has.false) (sym c.has-else-not-has.ensures ∙ c.if-has.false)
    c.look-with_u.result c.mask_with-with_v.result c.mask_with-with_both.result
    c.look-with_u.ensures (c.mask_with-with_v.ensures ∙ ap (λ t. mask (g.S.Store.contents c.args.store.now).model (plus c.args.self.v t)) c.without.ensures) c.mask_with-with_both.ensures c.mask_with-with_both.type_inv
