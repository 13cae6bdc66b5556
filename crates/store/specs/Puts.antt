-- What a put answers and leaves.
use Rattle.std.specs.Prelude.{ℕ, cond, not, ◌&&◌, List, length, Ok, Err, Result, ◌==◌}
use Rattle.complex.specs.Model.{mask, write}
use Rattle.complex.specs.Simplex.{below}
use Rattle.store.specs.Contents.{Contents, holding}
use Rattle.store.specs.declared.refusal.StoreRefusal.{StoreRefusal}
use Rattle.store.specs.declared.refusal.StoreRefusal.TheVariants.{Range, Full}

-- a refusal alters nothing
abbrev pub settled : {A E C : Type 0} → Result A E → C → C → C
settled (Ok x) old new = new
settled (Err e) old new = old

-- the number of a refusal
abbrev pub store_number : StoreRefusal → ℕ
store_number Range = 3
store_number Full = 22

-- a mask of 0 removes and is never refused; another is refused where a vertex is not below the range, then where a new simplex finds the store full
abbrev pub put_answer : Contents → List ℕ → ℕ → Result (Unit {0}) StoreRefusal
put_answer c s m =
    cond (m == 0) (Ok tt)
    (cond (not (below c.range s)) (Err Range)
    (cond (mask c.model s == 0 && length c.model == c.limit) (Err Full) (Ok tt)))

-- otherwise this simplex has this mask and all others are as before
abbrev pub put_next : Contents → List ℕ → ℕ → Contents
put_next c s m = settled (put_answer c s m) c (holding c (write c.model s m))
