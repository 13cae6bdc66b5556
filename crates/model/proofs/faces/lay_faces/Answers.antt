use Rattle.std.proofs.Common.{◌≡◌, sym, ap, ◌∙◌, subst, refl, arith}
use Rattle.complex.specs.Simplex.{faces}
use Rattle.simplex.specs.FacesLeft.{faces_left}
use Rattle.simplex.specs.Simplexes.{vertices}
use Rattle.model.proofs.Facing.{Laying, laying_first, face_laid, face_there}
use Rattle.model.proofs.faces.lay_faces.Goals as goal

pub loop-face-init : goal.loop-face-init
loop-face-init g c =
    let before = g.S.Store.contents c.args.store.now in
    let s = c.args.s.now in
    let all : faces_left c.into_iter-face-iterator.result ≡ faces (vertices s) = ap faces_left c.into_iter-face-iterator.ensures.into_iter_gives ∙ c.faces-face-items.ensures.all in
    subst (Laying (vertices s) before before) (sym all) (laying_first (vertices s) before s.rising c.requires.room)

pub loop-face-preserved-then-look-eq0 : goal.loop-face-preserved-then-look-eq0
loop-face-preserved-then-look-eq0 g c =
    let on = subst (Laying (vertices c.args.s.now) (g.S.Store.contents c.args.store.now) (g.S.Store.contents c.loop-face.store)) c.in-Some.ensures.steps c.loop-face.invariant in
    face_laid _ _ _ _ _ _ on (g.S.Store.stored c.loop-face.store).sorted c.requires.range (sym c.look.ensures ∙ c.if-look-eq0.true) c.put.ensures.after

pub loop-face-preserved : goal.loop-face-preserved
loop-face-preserved g c =
    let on = subst (Laying (vertices c.args.s.now) (g.S.Store.contents c.args.store.now) (g.S.Store.contents c.loop-face.store)) c.in-Some.ensures.steps c.loop-face.invariant in
    face_there _ _ _ _ _ _ on (g.S.Store.stored c.loop-face.store).sorted (omega (arith, c.look.ensures)) refl
