use Rattle.std.proofs.Common.{◌≡◌, ℕ, Ok, Err, Result, refl, sym, ◌∙◌, ap₂}
use Rattle.std.specs.Result.{IsErr}
use Rattle.std.proofs.lemmas.Bool.{cond-false}
use Rattle.simplex.specs.Simplexes.{vertices_or_none}
use Rattle.trail.specs.declared.refusal.TrailFull.{TrailFull}
use Rattle.model.specs.Notes.{lesser}
use Rattle.model.proofs.Noted.{noted_first, noted_on, fewer_left, no_room}
use Rattle.model.proofs.merges.Merge.note.Goals as goal

pub loop-base-init : goal.loop-base-init
loop-base-init g c =
    let store = c.args.store.now in
    rw (c.of-over_u.ensures, c.of-over_v.ensures) (noted_first c.args.self.u c.args.self.v (g.S.Store.contents store) c.args.trail.now c.requires.distinct (g.S.Store.stored store) c.requires.legal)

pub loop-base-smaller : goal.loop-base-smaller
loop-base-smaller g c =
    fewer_left _ _ _ _ _ _ _ _ c.loop-base.invariant (vertices_or_none c.in-Some.base) (c.in-Some.ensures ∙ ap₂ lesser c.first.ensures c.first-in-loop-base.ensures) _ _ c.pass.ensures c.pass-in-Some.ensures

pub loop-base-preserved : goal.loop-base-preserved
loop-base-preserved g c =
    noted_on _ _ _ _ _ _ _ _ c.loop-base.invariant (vertices_or_none c.in-Some.base) (c.in-Some.ensures ∙ ap₂ lesser c.first.ensures c.first-in-loop-base.ensures) c.mask_with.result c.mask_with-in-Some.result c.note_pair.new.self _ _ c.mask_with.ensures c.mask_with-in-Some.ensures
    (sym c.in_ok-note_pair.ensures.answer) c.note_pair.ensures.pairs c.pass.ensures c.pass-in-Some.ensures

-- there is one way to be refused
refused : (r : Result ℕ TrailFull) → IsErr r → r ≡ Err (record {})
refused (Ok s) h = cc
refused (Err e) h = refl

pub returns-in_err-note_pair-clause-value : goal.returns-in_err-note_pair-clause-value
returns-in_err-note_pair-clause-value g c =
    let none = no_room _ _ _ _ _ _ _ _ c.loop-base.invariant (vertices_or_none c.in-Some.base) (c.in-Some.ensures ∙ ap₂ lesser c.first.ensures c.first-in-loop-base.ensures) (sym c.in_err-note_pair.ensures.answer) in
    refused c.from_residual.result c.from_residual.ensures.0 ∙ sym (cond-false _ _ _ none)
