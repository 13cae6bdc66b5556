-- A collapse taken back in a store: where the walk goes, and what it may rely on.
use Rattle.std.specs.Prelude.{◌≡◌, ℕ, ◌+◌, ◌<◌, ◌≤◌, true, cond, List, [], ◌∷◌, length, ◌==◌, bit_and}
use Rattle.complex.specs.Model.{Model, mask}
use Rattle.complex.specs.Simplex.{below, plus}
use Rattle.collapse.specs.Image.{collapse}
use Rattle.collapse.specs.Laws.{Sound, Collapsible}
use Rattle.collapse.specs.Link.{Base}
use Rattle.collapse.specs.Split.{pairs_of}
use Rattle.store.specs.Contents.{Contents, fits}
use Rattle.trail.specs.Notes.{Note}

-- the pairs of the newest record, none where there is no record
abbrev pub newest_pairs : List Note → List (ℕ × ℕ)
newest_pairs [] = []
newest_pairs (n ∷ ns) = n.pairs

-- 1 for the mask of a held simplex, 0 for that of an absent one
abbrev pub one_held : ℕ → ℕ
one_held m = cond (m == 0) 0 1

-- a store takes the mask m at k
pub record Takes (c : Contents) (k : List ℕ) (m : ℕ) : Type 0 where
  pub small : 0 < m → length k ≤ 4
  pub ranged : 0 < m → below c.range k ≡ true
  pub room : 0 < m → mask c.model k ≡ 0 → length c.model < c.limit

-- of the three simplexes over s a store holds s + u alone, and it has room for all that get a mask by a and b
pub record SplitsAt (u v : ℕ) (c : Contents) (s : List ℕ) (a b : ℕ) : Type 0 where
  pub distinct : u ≡ v → ⊥
  pub base : Base u v s
  pub there : 0 < mask c.model (plus u s)
  pub no_v : mask c.model (plus v s) ≡ 0
  pub no_both : mask c.model (plus u (plus v s)) ≡ 0
  pub u_small : 0 < a → length (plus u s) ≤ 4
  pub u_ranged : 0 < a → below c.range (plus u s) ≡ true
  pub v_small : 0 < b → length (plus v s) ≤ 4
  pub v_ranged : 0 < b → below c.range (plus v s) ≡ true
  pub both_small : 0 < bit_and a b → length (plus u (plus v s)) ≤ 4
  pub both_ranged : 0 < bit_and a b → below c.range (plus u (plus v s)) ≡ true
  pub room : length c.model + one_held a + one_held b + one_held (bit_and a b) ≤ 1 + c.limit

-- the collapse of v into u made what a store holds from M, ps is its record, and the store can hold M
pub record Undoes (u v : ℕ) (c : Contents) (ps : List (ℕ × ℕ)) (M : Model) : Type 0 where
  pub sound : Sound M
  pub allowed : Collapsible u v M
  pub made : c.model ≡ collapse u v M
  pub recorded : ps ≡ pairs_of u v M
  pub room : length M ≤ c.limit
  pub fit : fits c.range M ≡ true
