use Rattle.std.proofs.Common.{◌≡◌, sym, ap, ◌∙◌, ap₂, subst}
use lib.Bits.{bit_or}
use Rattle.complex.specs.Simplex.{faces}
use Rattle.simplex.specs.FacesLeft.{faces_left}
use Rattle.simplex.specs.Simplexes.{vertices}
use Rattle.model.proofs.Facing.{Marking, marking_first, face_marked}
use Rattle.model.proofs.faces.mark_faces.Goals as goal

pub loop-face-init : goal.loop-face-init
loop-face-init g c held =
    let before = g.S.Store.contents c.args.store.now in
    let s = c.args.s.now in
    let p = c.args.part.number in
    let all : faces_left c.into_iter-face-iterator.result ≡ faces (vertices s) = ap faces_left c.into_iter-face-iterator.ensures.into_iter_gives ∙ c.faces-face-items.ensures.all in
    subst (Marking p (vertices s) before before) (sym all) (marking_first p (vertices s) before s.rising held)

pub loop-face-preserved : goal.loop-face-preserved
loop-face-preserved g c held =
    let p = c.args.part.number in
    let on = subst (Marking p (vertices c.args.s.now) (g.S.Store.contents c.args.store.now) (g.S.Store.contents c.loop-face.store)) c.in-Some.ensures.steps (c.loop-face.invariant held) in
    face_marked p _ _ _ _ _ _ _ on (g.S.Store.stored c.loop-face.store).sorted c.requires.range (ap₂ bit_or c.look.ensures c.mask.ensures) c.put.ensures.after
