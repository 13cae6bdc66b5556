-- That a model is legal is a proposition, so that a type can carry it.
use Rattle.std.specs.Prelude.{ℕ, ◌<◌, true, List}
use Rattle.std.specs.Coded.{coded_bool}
use denote.Struct.Props.{≡_prop}
use std.HLevel.{Π_prop}
use Rattle.complex.specs.Mask.{bit}
use Rattle.complex.specs.Model.{Model, mask, In, Legal}
use Rattle.complex.specs.Simplex.{Face}

in_prop : (p : ℕ) (M : Model) (s : List ℕ) → IsProp (In p M s)
in_prop p M s = ≡_prop coded_bool (bit p (mask M s)) true

body_prop : (M : Model) → IsProp ((s : List ℕ) → 0 < mask M s → In 0 M s)
body_prop M = Π_prop (λ s. Π_prop (λ h. in_prop 0 M s))

closed_prop : (M : Model) → IsProp ((p : ℕ) (s t : List ℕ) → In p M s → Face t s → In p M t)
closed_prop M = Π_prop (λ p. Π_prop (λ s. Π_prop (λ t. Π_prop (λ i. Π_prop (λ f. in_prop p M t)))))

pub legal_prop : (M : Model) → IsProp (Legal M)
legal_prop M x y = λ i. record { body = body_prop M x.body y.body i; closed = closed_prop M x.closed y.closed i }
