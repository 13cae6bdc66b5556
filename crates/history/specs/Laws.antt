-- The laws of standing collapses.
use Rattle.std.specs.Prelude.{◌≡◌, ℕ, not, ◌&&◌, List, [], ◌∷◌, ◌==◌}
use Rattle.complex.specs.Model.{mask}
use Rattle.collapse.specs.Image.{collapse}
use Rattle.collapse.specs.Laws.{Collapsible}
use Rattle.collapse.specs.Split.{pairs_of}
use Rattle.collapse.specs.Standing.{traced as along}
use Rattle.store.specs.Contents.{Contents, holding, Stored}
use Rattle.trail.specs.Notes.{Note, note}
use Rattle.trail.specs.Questions.{traced, merged}
use Rattle.history.specs.Past.{undone, first, standing}
use Rattle.history.specs.Promise.{Promise}
use Rattle.history.specs.Sound.{Sound}

-- what is held after v is merged into u
abbrev pub collapsed : ℕ → ℕ → Contents → Contents
collapsed u v c = holding c (collapse u v c.model)

-- the record of that
abbrev pub record_of : ℕ → ℕ → Contents → Note
record_of u v c = note u v (pairs_of u v c.model)

-- a sound model keeps the whole promise against its first model
abbrev pub SoundKeepsPromise : Type 0
SoundKeepsPromise = (c : Contents) (ns : List Note) → Stored c → Sound c ns → Promise c ns

-- a collapse that is accepted and recorded: its record takes it back, the model stays sound, and the first model is the same
pub record Standing (u v : ℕ) (c : Contents) (ns : List Note) : Type 0 where
  pub undoes : undone (collapsed u v c) (record_of u v c) ≡ c
  pub sound : Sound (collapsed u v c) (record_of u v c ∷ ns)
  pub same_first : first (collapsed u v c) (record_of u v c ∷ ns) ≡ first c ns

abbrev pub AcceptedStands : Type 0
AcceptedStands = (u v : ℕ) (c : Contents) (ns : List Note) → Stored c → Sound c ns → Collapsible u v c.model → Standing u v c ns

-- the records trace a vertex as the standing list does; a vertex was in the first model where it is in this one or was merged
pub record RecordsTrace : Type 0 where
  pub alike : (ns : List Note) (w : ℕ) → traced ns w ≡ along (standing ns) w
  pub first_vertex : (ns : List Note) (c : Contents) → Stored c → Sound c ns → (w : ℕ) → (mask (first c ns) (w ∷ []) == 0) ≡ (mask c.model (w ∷ []) == 0 && not (merged ns w))
