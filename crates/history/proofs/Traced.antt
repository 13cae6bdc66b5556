-- Where the vertices of the first body have gone.
use Rattle.std.proofs.Common.{◌≡◌, ℕ, ◌<◌, Bool, true, false, cond, not, ◌&&◌, ◌||◌, eqb, ◌⊎◌, List, [], ◌∷◌, sym, refl, ap, ◌∙◌, subst, inl, inr, arith}
use lib.Bits.{bit_or, or_add_and, and_le_r}
use Rattle.std.proofs.lemmas.Bool.{cases_eq, eq-eqb, ne_eqb, eqb-true, cond-true, cond-false, or_left, or_right, or_from}
use Rattle.complex.specs.Model.{Model, mask, Legal}
use Rattle.complex.specs.Simplex.{has, plus, less, Face}
use Rattle.complex.proofs.Masks.{bit_holds}
use Rattle.collapse.specs.Image.{collapse}
use Rattle.collapse.specs.Laws.{Collapsible}
use Rattle.collapse.specs.Laws as laws
use Rattle.collapse.specs.Standing.{traced as along}
use Rattle.collapse.proofs.Images.{image_masks}
use Rattle.collapse.proofs.Vertices.{has_plus}
use Rattle.store.specs.Contents.{Contents, Stored}
use Rattle.trail.specs.Notes.{Note}
use Rattle.trail.specs.Questions.{traced, merged}
use Rattle.history.specs.Past.{undone, first, standing}
use Rattle.history.specs.Sound.{Sound}
use Rattle.history.proofs.Fitted.{stored_sound}
use Rattle.history.proofs.Sounds.{stands_model, sound_legal, traced_more}

-- the trail's walk from the oldest record to the newest is the walk along the standing list
pub traced_along : (ns : List Note) (w : ℕ) → traced ns w ≡ along (standing ns) w
traced_along [] w = refl
traced_along (n ∷ ns) w = ap (λ x. cond (eqb x n.v) n.u x) (traced_along ns w) ∙ sym (traced_more (standing ns) n.u n.v w)

-- the ends of a held edge are held
end_held : (M : Model) (x y w : ℕ) → Legal M → 0 < mask M (plus x (y ∷ [])) → has w (plus x (y ∷ [])) ≡ true → 0 < mask M (w ∷ [])
end_held M x y w legal edge h =
    bit_holds 0 (mask M (w ∷ [])) (legal.closed 0 (plus x (y ∷ [])) (w ∷ []) (legal.body (plus x (y ∷ [])) edge) face)
  where
    only : (a : ℕ) → has a (w ∷ []) ≡ true → a ≡ w
    only a i = eqb-true a w (sole (eqb a w) i)
      where
        sole : (b : Bool) → (b || false) ≡ true → b ≡ true
        sole true e = refl
        sole false e = e

    face : Face (w ∷ []) (plus x (y ∷ []))
    face = record { some = omega arith; rising = (tt, tt); subset = λ a i. ap (λ q. has q (plus x (y ∷ []))) (only a i) ∙ h }

-- a vertex was held before a collapse exactly when it is held after it or was merged away
vertex_before : (M : Model) (u v w : ℕ) → laws.Sound M → Collapsible u v M → eqb (mask M (w ∷ [])) 0 ≡ (eqb (mask (collapse u v M) (w ∷ [])) 0 && not (eqb w v))
vertex_before M u v w sound ok = go (cases_eq w v) (cases_eq w u)
  where
    masks : mask (collapse u v M) (w ∷ []) ≡ laws.merged u v M (w ∷ [])
    masks = (image_masks u v M ok.distinct sound.sorted sound.shaped sound.legal).rising (w ∷ []) (tt, tt)

    some : (m : ℕ) → 0 < m → eqb m 0 ≡ false
    some m h = ne_eqb m 0 (omega arith)

    u_held : 0 < mask M (u ∷ [])
    u_held = end_held M u v u sound.legal ok.edge (has_plus u u (v ∷ []) ∙ or_left _ _ (eq-eqb u u refl))

    v_held : 0 < mask M (v ∷ [])
    v_held = end_held M u v v sound.legal ok.edge (has_plus v u (v ∷ []) ∙ or_right (eqb v u) _ (or_left (eqb v v) false (eq-eqb v v refl)))

    alone : (a b : ℕ) → (a ≡ b → ⊥) → has a (b ∷ []) ≡ false
    alone a b n = or_from (eqb a b) false (ne_eqb a b n) refl

    kept : (b : Bool) → b ≡ (b && true)
    kept true = refl
    kept false = refl

    go : (w ≡ v) ⊎ (w ≡ v → ⊥) → (w ≡ u) ⊎ (w ≡ u → ⊥) → eqb (mask M (w ∷ [])) 0 ≡ (eqb (mask (collapse u v M) (w ∷ [])) 0 && not (eqb w v))
    go (inl e) x =
        ap (λ q. eqb (mask M (q ∷ [])) 0) e ∙ some (mask M (v ∷ [])) v_held
        ∙ sym (ap (λ b. eqb (mask (collapse u v M) (w ∷ [])) 0 && not b) (eq-eqb w v e) ∙ nothing (eqb (mask (collapse u v M) (w ∷ [])) 0))
      where
        nothing : (b : Bool) → (b && false) ≡ false
        nothing true = refl
        nothing false = refl
    go (inr n) (inl e) =
        let joined : laws.merged u v M (w ∷ []) ≡ bit_or (mask M (w ∷ [])) (mask M (plus v (less u (w ∷ [])))) =
        cond-false (has v (w ∷ [])) _ _ (alone v w (λ d. n (sym d))) ∙ cond-true (has u (w ∷ [])) _ _ (or_left (eqb u w) false (eq-eqb u w (sym e))) in
        let held : 0 < mask M (w ∷ []) = subst (λ q. 0 < mask M (q ∷ [])) (sym e) u_held in
        let b = mask M (plus v (less u (w ∷ []))) in
        let now : 0 < mask (collapse u v M) (w ∷ []) = rw (masks ∙ joined) (omega (arith, or_add_and (mask M (w ∷ [])) b, and_le_r (mask M (w ∷ [])) b)) in
        some (mask M (w ∷ [])) held ∙ sym (ap (λ c. c && not (eqb w v)) (some (mask (collapse u v M) (w ∷ [])) now))
    go (inr n) (inr k) =
        let same : mask (collapse u v M) (w ∷ []) ≡ mask M (w ∷ []) = masks ∙ cond-false (has v (w ∷ [])) _ _ (alone v w (λ d. n (sym d))) ∙ cond-false (has u (w ∷ [])) _ _ (alone u w (λ d. k (sym d))) in
        kept (eqb (mask M (w ∷ [])) 0) ∙ ap (λ c. eqb (mask M (w ∷ [])) 0 && not c) (sym (ne_eqb w v n)) ∙ ap (λ m. eqb m 0 && not (eqb w v)) (sym same)

-- a vertex of the first body is held now or was merged away
pub first_vertex : (ns : List Note) (c : Contents) → Stored c → Sound c ns → (w : ℕ) → eqb (mask (first c ns) (w ∷ [])) 0 ≡ (eqb (mask c.model (w ∷ [])) 0 && not (merged ns w))
first_vertex [] c stored h w = sides (eqb (mask c.model (w ∷ [])) 0)
  where
    sides : (b : Bool) → b ≡ (b && true)
    sides true = refl
    sides false = refl
first_vertex (n ∷ ns) c stored h w =
    let d = undone c n in
    let legal = sound_legal ns d h.0.stored h.1 in
    let step = vertex_before d.model n.u n.v w (stored_sound d h.0.stored legal) h.0.accepted in
    let model = stands_model d c n h.0 stored legal in
    first_vertex ns d h.0.stored h.1 w
    ∙ ap (λ b. b && not (merged ns w)) (step ∙ ap (λ M. eqb (mask M (w ∷ [])) 0 && not (eqb w n.v)) (sym model))
    ∙ regroup (eqb (mask c.model (w ∷ [])) 0) (eqb w n.v) (merged ns w)
  where
    regroup : (a b c : Bool) → ((a && not b) && not c) ≡ (a && not (b || c))
    regroup true true c = refl
    regroup true false c = refl
    regroup false b c = refl
