-- A model: the held simplexes with their masks, in the order of simplexes.
use Rattle.std.specs.Prelude.{◌≡◌, ℕ, zero, suc, ◌^◌, ◌<◌, Bool, true, false, cond, not, ◌&&◌, List, length, ℤ, pos, ◌-ℤ◌, Some, None, fold, count_by, Option, ◌==◌, bit_or, nat_eq}
use Rattle.std.specs.Option.{unwrap_or}
use Rattle.order.specs.Assoc.{lookup, put, rising, total}
use Rattle.order.specs.declared.record.Record.{Record}
use Rattle.complex.specs.Mask.{bit}
use Rattle.complex.specs.Simplex.{colex, Face, faces}

abbrev pub Model : Type 0
Model = List (Record (List ℕ) ℕ)

-- the mask of a simplex, 0 where it is absent
abbrev pub mask : Model → List ℕ → ℕ
mask M s = unwrap_or (lookup colex s M) 0

-- no mask stands for absence but 0
abbrev pub present : ℕ → Option ℕ
present m = cond (m == 0) None (Some m)

-- the simplex s has the mask m, and every other simplex is as before
abbrev pub write : Model → List ℕ → ℕ → Model
write M s m = put colex s (present m) M

-- the simplexes stand in their order
abbrev pub Sorted : Model → Type 0
Sorted M = rising colex M ≡ true

-- the simplex s is in part p
abbrev pub In : ℕ → Model → List ℕ → Type 0
In p M s = bit p (mask M s) ≡ true

-- every held simplex is in the body, and a part holds every face of what it holds
pub record Legal (M : Model) : Type 0 where
  pub body : (s : List ℕ) → 0 < mask M s → In 0 M s
  pub closed : (p : ℕ) (s t : List ℕ) → In p M s → Face t s → In p M t

-- is a number odd?
abbrev pub odd : ℕ → Bool
odd zero = false
odd (suc n) = not (odd n)

-- 1 for a simplex of part p with one or three vertices, and 1 for one with two or four
abbrev pub counts_up : ℕ → List ℕ → ℕ → ℕ
counts_up p s m = cond (bit p m && odd (length s)) 1 0

abbrev pub counts_down : ℕ → List ℕ → ℕ → ℕ
counts_down p s m = cond (bit p m && not (odd (length s))) 1 0

-- the simplexes of part p with one or three vertices, less those with two or four
abbrev pub euler : ℕ → Model → ℤ
euler p M = pos (total (counts_up p) M) -ℤ pos (total (counts_down p) M)

-- a simplex that is absent gets the mask 1
abbrev pub lay_one : Model → List ℕ → Model
lay_one M f = cond (mask M f == 0) (write M f 1) M

-- a simplex and all its faces are laid
abbrev pub lay : Model → List ℕ → Model
lay M s = fold lay_one M (faces s)

-- what laying s does to the masks: absent faces get 1, all else is as before
pub record Laid (M N : Model) (s : List ℕ) : Type 0 where
  pub face : (q : List ℕ) → Face q s → mask N q ≡ cond (mask M q == 0) 1 (mask M q)
  pub other : (q : List ℕ) → (Face q s → ⊥) → mask N q ≡ mask M q

-- how many of these simplexes are absent
abbrev pub absent : Model → List (List ℕ) → ℕ
absent M fs = count_by (λ f. nat_eq (mask M f) 0) fs

-- a simplex gets bit p
abbrev pub mark_one : ℕ → Model → List ℕ → Model
mark_one p M f = write M f (bit_or (mask M f) (2 ^ p))

-- a simplex and all its faces are marked with p
abbrev pub mark : ℕ → Model → List ℕ → Model
mark p M s = fold (mark_one p) M (faces s)

-- what marking s with p does to the masks: its faces get bit p, all else is as before
pub record Marked (p : ℕ) (M N : Model) (s : List ℕ) : Type 0 where
  pub face : (q : List ℕ) → Face q s → mask N q ≡ bit_or (mask M q) (2 ^ p)
  pub other : (q : List ℕ) → (Face q s → ⊥) → mask N q ≡ mask M q

-- how many of these simplexes lack bit p
abbrev pub unmarked : ℕ → Model → List (List ℕ) → ℕ
unmarked p M fs = count_by (λ f. not (bit p (mask M f))) fs
