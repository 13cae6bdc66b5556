-- What a sound working model keeps of its first model.
use Rattle.std.proofs.Common.{◌≡◌, ℕ, ◌<◌, List, [], ◌∷◌, ◌++◌, sym, refl, ap, ◌∙◌, subst}
use Rattle.complex.specs.Model.{Model, Legal, euler}
use Rattle.collapse.specs.Image.{collapse, moved}
use Rattle.collapse.specs.Laws.{Collapsible, Accepted}
use Rattle.collapse.specs.Laws as laws
use Rattle.collapse.specs.PieceLaws.{Run, none, more, SamePieces}
use Rattle.collapse.specs.Standing.{made_by, traced}
use Rattle.collapse.proofs.Images.{same_masks, image_rule}
use Rattle.collapse.proofs.Made.{collapse_sound, made_keeps}
use Rattle.collapse.proofs.Splits.{split_inverts}
use Rattle.collapse.proofs.Traces.{traces_keep_pieces}
use Rattle.store.specs.Contents.{Contents, holding, Stored}
use Rattle.store.proofs.Walks.{none_is_zero}
use Rattle.trail.specs.Notes.{Note}
use Rattle.history.specs.Past.{undone, first, standing}
use Rattle.history.specs.Promise.{Promise}
use Rattle.history.specs.Laws.{collapsed, record_of}
use Rattle.history.specs.Sound.{Stands, Sound}
use Rattle.history.proofs.Fitted.{stored_sound}

-- the model after a collapse that stands is the collapse's image
pub stands_model : (d c : Contents) (n : Note) → Stands d c n → Stored c → Legal d.model → c.model ≡ collapse n.u n.v d.model
stands_model d c n st stored legal =
    let before = stored_sound d st.stored legal in
    let after = collapse_sound n.u n.v d.model st.accepted.distinct before in
    same_masks c.model (collapse n.u n.v d.model) stored.sorted after.sorted (none_is_zero c.range c.model stored.fit) after.positive st.masks

pub sound_legal : (ns : List Note) (c : Contents) → Stored c → Sound c ns → Legal c.model
sound_legal [] c stored h = h
sound_legal (n ∷ ns) c stored h =
    let d = undone c n in
    let legal = sound_legal ns d h.0.stored h.1 in
    subst Legal (sym (stands_model d c n h.0 stored legal)) (collapse_sound n.u n.v d.model h.0.accepted.distinct (stored_sound d h.0.stored legal)).legal

-- a collapse, recorded, can be undone
module _ (c : Contents) (u v : ℕ) (ns : List Note) (stored : Stored c) (sound : Sound c ns) (ok : Collapsible u v c.model) where
  pub undoing_collapse : undone (collapsed u v c) (record_of u v c) ≡ c
  undoing_collapse = ap (holding c) (split_inverts u v c.model ok.distinct (stored_sound c stored (sound_legal ns c stored sound)) ok.untied)

  pub collapse_stays_sound : Sound (collapsed u v c) (record_of u v c ∷ ns)
  collapse_stays_sound =
      subst (λ (d : Contents). Stands d (collapsed u v c) (record_of u v c) × Sound d ns) (sym undoing_collapse)
      (record { stored = stored; accepted = ok; masks = λ q. refl; pairs = refl }, sound)

  pub collapse_keeps_first : first (collapsed u v c) (record_of u v c ∷ ns) ≡ first c ns
  collapse_keeps_first = ap (λ d. first d ns) undoing_collapse

-- a list of accepted collapses with one more
accepted_more : (M : Model) (ks : List (ℕ × ℕ)) (u v : ℕ) → Accepted M ks → Collapsible u v (made_by M ks) → Accepted M (ks ++ ((u, v) ∷ []))
accepted_more M [] u v a ok = (ok, tt)
accepted_more M (k ∷ ks) u v a ok = (a.0, accepted_more (collapse k.0 k.1 M) ks u v a.1 ok)

pub made_by_more : (M : Model) (ks : List (ℕ × ℕ)) (u v : ℕ) → made_by M (ks ++ ((u, v) ∷ [])) ≡ collapse u v (made_by M ks)
made_by_more M [] u v = refl
made_by_more M (k ∷ ks) u v = made_by_more (collapse k.0 k.1 M) ks u v

pub traced_more : (ks : List (ℕ × ℕ)) (u v x : ℕ) → traced (ks ++ ((u, v) ∷ [])) x ≡ moved u v (traced ks x)
traced_more [] u v x = refl
traced_more (k ∷ ks) u v x = traced_more ks u v (moved k.0 k.1 x)

-- the first model was sound, each standing collapse was accepted, and together they made the present model
pub record Made (c : Contents) (ns : List Note) : Type 0 where
  pub start : laws.Sound (first c ns)
  pub each : Accepted (first c ns) (standing ns)
  pub now : c.model ≡ made_by (first c ns) (standing ns)

pub sound_made : (ns : List Note) (c : Contents) → Stored c → Sound c ns → Made c ns
sound_made [] c stored h = record { start = stored_sound c stored h; each = tt; now = refl }
sound_made (n ∷ ns) c stored h =
    let d = undone c n in
    let old = sound_made ns d h.0.stored h.1 in
    let legal = sound_legal ns d h.0.stored h.1 in
    record {
      start = old.start;
      each = accepted_more (first d ns) (standing ns) n.u n.v old.each (subst (Collapsible n.u n.v) old.now h.0.accepted);
      now = stands_model d c n h.0 stored legal ∙ ap (collapse n.u n.v) old.now ∙ sym (made_by_more (first d ns) (standing ns) n.u n.v);
    }

-- a list of accepted collapses is a run of steps for each part
run_of : (p : ℕ) → p < 8 → (M : Model) (ks : List (ℕ × ℕ)) → laws.Sound M → Accepted M ks → Run p M ks (made_by M ks)
run_of p l M [] sound a = none
run_of p l M (k ∷ ks) sound a =
    more (record {
      legal = sound.legal;
      shaped = sound.shaped;
      apart = a.0.distinct;
      linked = a.0.untied p l [] (record { rising = tt; no_u = refl; no_v = refl });
      collapsed = image_rule k.0 k.1 M sound.sorted;
    }) (run_of p l (collapse k.0 k.1 M) ks (collapse_sound k.0 k.1 M a.0.distinct sound) a.1)

pub sound_keeps_euler : (ns : List Note) (c : Contents) → Stored c → Sound c ns → (p : ℕ) → p < 8 → euler p c.model ≡ euler p (first c ns)
sound_keeps_euler ns c stored h p l =
    let made = sound_made ns c stored h in
    ap (euler p) made.now ∙ (made_keeps (first c ns) (standing ns) made.start made.each).1 p l

pub sound_keeps_pieces : (ns : List Note) (c : Contents) → Stored c → Sound c ns → (p : ℕ) → p < 8 → SamePieces p (first c ns) c.model (traced (standing ns))
sound_keeps_pieces ns c stored h p l =
    let made = sound_made ns c stored h in
    subst (λ (N : Model). SamePieces p (first c ns) N (traced (standing ns))) (sym made.now)
    (traces_keep_pieces p (first c ns) (made_by (first c ns) (standing ns)) (standing ns) (run_of p l (first c ns) (standing ns) made.start made.each))

pub sound_promise : (ns : List Note) (c : Contents) → Stored c → Sound c ns → Promise c ns
sound_promise ns c stored h = record {
  legal = sound_legal ns c stored h;
  euler = sound_keeps_euler ns c stored h;
  pieces = sound_keeps_pieces ns c stored h;
  made = (sound_made ns c stored h).now;
}
