-- Where the link condition of an edge fails: the search for the smallest part and the first simplex that shows it.
use Rattle.std.specs.Prelude.{◌≡◌, ℕ, zero, suc, ◌+◌, ◌<◌, Bool, cond, not, ◌&&◌, List, [], ◌∷◌, Some, None, Option}
use Rattle.std.specs.Option.{option_map}
use Rattle.complex.specs.Mask.{bit}
use Rattle.complex.specs.Model.{Model, mask, Sorted}
use Rattle.complex.specs.Simplex.{has, plus}
use Rattle.collapse.specs.Laws.{Positive, Shaped}
use Rattle.collapse.specs.Link.{Tied, Untied}
use Rattle.collapse.specs.Split.{bases}
use Rattle.simplex.specs.Simplexes.{vertices_or_none}
use Rattle.model.specs.Calls.{parts}
use Rattle.model.specs.declared.ties.Tie.{Tie}

-- s is without v, s + u and s + v are in part p, and s + u + v is not
abbrev pub shows : ℕ → ℕ → ℕ → Model → List ℕ → Bool
shows p u v M s =
    not (has v s) && (bit p (mask M (plus u s)) && (bit p (mask M (plus v s)) && not (bit p (mask M (plus u (plus v s))))))

-- the first of a list that passes
abbrev pub first_of : (List ℕ → Bool) → List (List ℕ) → Option (List ℕ)
first_of f [] = None
first_of f (s ∷ ss) = cond (f s) (Some s) (first_of f ss)

-- the first s that shows it for part p
abbrev pub tie_in : ℕ → ℕ → ℕ → Model → Option (List ℕ)
tie_in p u v M = first_of (shows p u v M) (bases u M)

-- part p with what was found for it, or else what a later part gives
abbrev pub or_later : ℕ → Option (List ℕ) → Option (ℕ × List ℕ) → Option (ℕ × List ℕ)
or_later p None later = later
or_later p (Some s) later = Some (p, s)

-- the first of k parts, from p on, for which there is one
abbrev pub tie_from : ℕ → ℕ → ℕ → ℕ → Model → Option (ℕ × List ℕ)
tie_from p zero u v M = None
tie_from p (suc k) u v M = or_later p (tie_in p u v M) (tie_from (p + 1) k u v M)

-- the smallest part for which the condition fails, and the first s that shows it
abbrev pub tie : ℕ → ℕ → Model → Option (ℕ × List ℕ)
tie u v M = tie_from 0 parts u v M

-- a tie of the code by its part and its vertices
abbrev pub told_tie : Option Tie → Option (ℕ × List ℕ)
told_tie o = option_map (λ t. (t.part.number, vertices_or_none t.base)) o

-- what the search tells of the link condition
pub record Searched (u v : ℕ) (M : Model) : Type 0 where
  pub part : (p : ℕ) (s : List ℕ) → tie u v M ≡ Some (p, s) → p < parts
  pub tied : (p : ℕ) (s : List ℕ) → tie u v M ≡ Some (p, s) → Tied p u v M s
  pub untied : tie u v M ≡ None → Untied u v M

-- it finds the smallest part and the first s where there is one, and otherwise the condition holds for all
abbrev pub SearchFinds : Type 0
SearchFinds = (u v : ℕ) (M : Model) → Sorted M → Positive M → Shaped M → Searched u v M
