-- What one accepted collapse keeps, a list of them keeps.
use Rattle.std.proofs.Common.{◌≡◌, ℕ, ◌<◌, Bool, true, false, cond, ◌⊎◌, List, [], ◌∷◌, refl, ◌∙◌, inl, inr, arith}
use lib.Bits.{bit_or, or_lt}
use Rattle.complex.specs.Model.{Model, mask}
use Rattle.complex.specs.Simplex.{has, plus, Rising}
use Rattle.collapse.specs.Image.{less, collapse}
use Rattle.collapse.specs.Laws.{Sound, Narrow, merged, MadeKeeps}
use Rattle.collapse.proofs.Eulers.{collapse_keeps_euler}
use Rattle.collapse.proofs.Images.{collapse_positive, image_masks, image_rule}
use Rattle.collapse.proofs.Legals.{collapse_keeps_legal}
use Rattle.collapse.proofs.Vertices.{rising_told}

merged_narrow : (u v : ℕ) (M : Model) → Narrow M → (t : List ℕ) → merged u v M t < 256
merged_narrow u v M narrow t = go (has v t) (has u t)
  where
    go : (a b : Bool) → cond a 0 (cond b (bit_or (mask M t) (mask M (plus v (less u t)))) (mask M t)) < 256
    go true b = omega arith
    go false true = or_lt 8 (mask M t) (mask M (plus v (less u t))) (narrow t) (narrow (plus v (less u t)))
    go false false = narrow t

pub collapse_sound : (u v : ℕ) (M : Model) → (u ≡ v → ⊥) → Sound M → Sound (collapse u v M)
collapse_sound u v M n sound = record {
  sorted = (image_rule u v M sound.sorted).sorted;
  positive = collapse_positive u v M;
  shaped = (collapse_keeps_legal u v M n sound.sorted sound.shaped sound.legal).1;
  narrow = λ t. narrow t (rising_told t);
  legal = (collapse_keeps_legal u v M n sound.sorted sound.shaped sound.legal).0;
}
  where
    narrow : (t : List ℕ) → Rising t ⊎ (Rising t → ⊥) → mask (collapse u v M) t < 256
    narrow t (inl r) = rw ((image_masks u v M n sound.sorted sound.shaped sound.legal).rising t r) (merged_narrow u v M sound.narrow t)
    narrow t (inr k) = rw ((image_masks u v M n sound.sorted sound.shaped sound.legal).other t k) (omega arith)

pub made_keeps : MadeKeeps
made_keeps M [] sound ok = (sound, λ p l. refl)
made_keeps M (k ∷ ks) sound ok =
    let n = ok.0.distinct in
    let more = made_keeps (collapse k.0 k.1 M) ks (collapse_sound k.0 k.1 M n sound) ok.1 in
    (more.0, λ p l. more.1 p l ∙ collapse_keeps_euler p k.0 k.1 M n sound.sorted sound.shaped sound.legal (ok.0.untied p l))
