use Rattle.std.proofs.Common.{sym, ap, ◌∙◌}
use Rattle.simplex.specs.Simplexes.{vertices_or_none, found}
use Rattle.model.specs.Notes.{ahead, head}
use Rattle.model.proofs.Ahead.{head_ahead, is_first, pass_first, pass_other}
use Rattle.model.proofs.bases.Bases.pass.Goals as goal

pub returns-then-eq : goal.returns-then-eq
returns-then-eq g c =
    let b = c.self.inside in
    let now = g.S.Store.contents b.store.now in
    let u = b.merge.u in
    let v = b.merge.v in
    let base = vertices_or_none c.args.base in
    let same = is_first u c.first.result c.args.base b.next (c.first.ensures ∙ sym (ap head c.self.view_is) ∙ head_ahead u v now.model (found b.next)) in
    rw (← c.self.view_is) (ap (ahead u v now.model) c.next_sided-self-inside.ensures ∙ pass_first u v now.model (g.S.Store.stored b.store.now).sorted base b.next (sym same ∙ sym c.eq.ensures ∙ c.if-eq.true))

pub returns-else-eq : goal.returns-else-eq
returns-else-eq g c =
    let b = c.self.inside in
    let now = g.S.Store.contents b.store.now in
    let u = b.merge.u in
    let v = b.merge.v in
    let base = vertices_or_none c.args.base in
    let same = is_first u c.first.result c.args.base b.next (c.first.ensures ∙ sym (ap head c.self.view_is) ∙ head_ahead u v now.model (found b.next)) in
    rw (← c.self.view_is) (pass_other u v now.model (g.S.Store.stored b.store.now).sorted base b.next (sym same ∙ sym c.eq.ensures ∙ c.if-eq.false))
