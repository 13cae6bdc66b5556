-- That a working model is sound is a proposition, so that a type can carry it.
use Rattle.std.specs.Prelude.{ℕ, true, List, [], ◌∷◌}
use Rattle.std.proofs.Math.Bridge.{le_prop}
use Rattle.std.specs.Coded.{coded_bool, coded_ℕ, coded×, coded_list}
use denote.Struct.Props.{≡_prop}
use std.HLevel.{Π_prop, ⊥_prop}
use Rattle.complex.specs.Legality.{legal_prop}
use Rattle.complex.specs.Mask.{bit}
use Rattle.complex.specs.Model.{Model, mask}
use Rattle.complex.specs.Simplex.{plus}
use Rattle.collapse.specs.Image.{collapse}
use Rattle.collapse.specs.Laws.{Collapsible}
use Rattle.collapse.specs.Link.{Untied}
use Rattle.store.specs.Contents.{Contents, Stored}
use Rattle.trail.specs.Notes.{Note}
use Rattle.history.specs.Past.{undone}
use Rattle.history.specs.Sound.{Stands, Sound}

stored_prop : (c : Contents) → IsProp (Stored c)
stored_prop c x y = λ i. record {
  sorted = ≡_prop coded_bool _ _ x.sorted y.sorted i;
  fit = ≡_prop coded_bool _ _ x.fit y.fit i;
  room = le_prop x.room y.room i;
  few = le_prop x.few y.few i;
  narrow = le_prop x.narrow y.narrow i;
}

untied_prop : (u v : ℕ) (M : Model) → IsProp (Untied u v M)
untied_prop u v M = Π_prop (λ p. Π_prop (λ l. Π_prop (λ s. Π_prop (λ b. Π_prop (λ x. Π_prop (λ y. ≡_prop coded_bool (bit p (mask M (plus u (plus v s)))) true))))))

collapsible_prop : (u v : ℕ) (M : Model) → IsProp (Collapsible u v M)
collapsible_prop u v M x y = λ i. record {
  distinct = Π_prop (λ e. ⊥_prop) x.distinct y.distinct i;
  edge = le_prop x.edge y.edge i;
  untied = untied_prop u v M x.untied y.untied i;
}

stands_prop : (d c : Contents) (n : Note) → IsProp (Stands d c n)
stands_prop d c n x y = λ i. record {
  stored = stored_prop d x.stored y.stored i;
  accepted = collapsible_prop n.u n.v d.model x.accepted y.accepted i;
  masks = Π_prop (λ q. ≡_prop coded_ℕ (mask c.model q) (mask (collapse n.u n.v d.model) q)) x.masks y.masks i;
  pairs = ≡_prop (coded_list (coded× coded_ℕ coded_ℕ)) _ _ x.pairs y.pairs i;
}

pub sound_prop : (ns : List Note) (c : Contents) → IsProp (Sound c ns)
sound_prop [] c x y = legal_prop c.model x y
sound_prop (n ∷ ns) c x y = λ i. (stands_prop (undone c n) c n x.0 y.0 i, sound_prop ns (undone c n) x.1 y.1 i)
