-- What the calls of a draft and a working model answer and leave, over what the store holds.
use Rattle.std.specs.Prelude.{◌≡◌, ℕ, ◌+◌, cond, not, ◌&&◌, List, [], length, ℤ, Ok, Err, Result, ◌==◌, nat_le, nat_lt}
use Rattle.complex.specs.Model.{mask, euler, lay, Laid, absent, mark, Marked, unmarked, Legal}
use Rattle.complex.specs.Simplex.{proper, below, faces}
use Rattle.store.specs.Contents.{Contents, holding}
use Rattle.store.specs.Puts.{settled}
use Rattle.model.specs.declared.refusal.ModelRefusal.{ModelRefusal}
use Rattle.model.specs.declared.refusal.ModelRefusal.TheVariants.{Part, Vertices, Range, Held, Full, Absent}

-- the body, which is part 0, and the marked parts
abbrev pub parts : ℕ
parts = 8

-- the number of a refusal
abbrev pub model_number : ModelRefusal → ℕ
model_number Part = 1
model_number Vertices = 2
model_number Range = 3
model_number Held = 21
model_number Full = 22
model_number Absent = 23

-- nothing is held
abbrev pub emptied : Contents → Contents
emptied c = holding c []

-- *lay* of a proper simplex: how many simplexes it added
abbrev pub lay_simplex : Contents → List ℕ → Result ℕ ModelRefusal
lay_simplex c s =
    cond (not (below c.range s)) (Err Range)
    (cond (not (mask c.model s == 0)) (Err Held)
    (cond (nat_lt c.limit (length c.model + absent c.model (faces s))) (Err Full) (Ok (absent c.model (faces s)))))

abbrev pub laid_simplex : Contents → List ℕ → Contents
laid_simplex c s = settled (lay_simplex c s) c (holding c (lay c.model s))

-- *lay* of any list of vertices
abbrev pub lay_answer : Contents → List ℕ → Result ℕ ModelRefusal
lay_answer c s = cond (proper s) (lay_simplex c s) (Err Vertices)

abbrev pub laid : Contents → List ℕ → Contents
laid c s = settled (lay_answer c s) c (holding c (lay c.model s))

-- *mark* of a proper simplex with part p: how many masks changed
abbrev pub mark_simplex : Contents → ℕ → List ℕ → Result ℕ ModelRefusal
mark_simplex c p s =
    cond (not (below c.range s)) (Err Range)
    (cond (mask c.model s == 0) (Err Absent) (Ok (unmarked p c.model (faces s))))

abbrev pub marked_simplex : Contents → ℕ → List ℕ → Contents
marked_simplex c p s = settled (mark_simplex c p s) c (holding c (mark p c.model s))

-- *mark* of any number and list of vertices
abbrev pub mark_answer : Contents → ℕ → List ℕ → Result ℕ ModelRefusal
mark_answer c p s =
    cond (not (nat_le 1 p && nat_lt p parts)) (Err Part)
    (cond (proper s) (mark_simplex c p s) (Err Vertices))

abbrev pub marked : Contents → ℕ → List ℕ → Contents
marked c p s = settled (mark_answer c p s) c (holding c (mark p c.model s))

-- *look*: the mask of a simplex, 0 where it is absent
abbrev pub look_answer : Contents → List ℕ → Result ℕ ModelRefusal
look_answer c s =
    cond (proper s) (cond (below c.range s) (Ok (mask c.model s)) (Err Range)) (Err Vertices)

-- *euler*: the signed number of part p
abbrev pub euler_answer : Contents → ℕ → Result ℤ ModelRefusal
euler_answer c p = cond (nat_lt p parts) (Ok (euler p c.model)) (Err Part)

-- a draft's *lay* that takes c to d and answers r
pub record Lays (c d : Contents) (s : List ℕ) (r : Result ℕ ModelRefusal) : Type 0 where
  pub value : r ≡ lay_answer c s
  pub after : d ≡ laid c s
  -- accepted, it changes the masks of absent faces alone, and adds as many simplexes as it answers
  pub masks : (n : ℕ) → r ≡ Ok n → Laid c.model d.model s
  pub added : (n : ℕ) → r ≡ Ok n → length d.model ≡ length c.model + n
  pub legal : Legal d.model

-- a draft's *mark* that takes c to d and answers r
pub record Marks (c d : Contents) (p : ℕ) (s : List ℕ) (r : Result ℕ ModelRefusal) : Type 0 where
  pub value : r ≡ mark_answer c p s
  pub after : d ≡ marked c p s
  -- accepted, it sets bit p on the faces alone
  pub masks : (n : ℕ) → r ≡ Ok n → Marked p c.model d.model s
  pub held : length d.model ≡ length c.model
  pub legal : Legal d.model
