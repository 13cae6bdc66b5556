-- A collapse keeps the pieces of each part.
use Rattle.std.proofs.Common.{◌≡◌, ℕ, true, false, cond, not, ◌&&◌, ◌||◌, eqb, ◌⊎◌, List, [], ◌∷◌, sym, refl, ◌∙◌, inl, inr, arith}
use Rattle.std.proofs.lemmas.Bool.{cases_Bool, cases_eq}
use Rattle.std.proofs.lemmas.Bool.Decides.{nat_tests}
use Rattle.complex.specs.Model.{Model, mask, In}
use Rattle.complex.specs.Simplex.{has, plus, Rising}
use Rattle.complex.proofs.Masks.{bit_holds}
use Rattle.collapse.specs.Image.{image, moved}
use Rattle.order.specs.Chain.{here, step}
use Rattle.collapse.specs.Pieces.{Joined, OnePiece}
use Rattle.collapse.specs.PieceLaws.{Step, CollapseKeepsPieces}
use Rattle.collapse.proofs.Vertices.{plus_rising, plus_some, has_plus, has_image, image_rising, same_has, plus_comm}

-- the image of a vertex
image_of_vertex : (u v x : ℕ) → image u v (x ∷ []) ≡ moved u v x ∷ []
image_of_vertex u v x = grind (arith, nat_tests)

-- the image of an edge
image_of_edge : (u v x y : ℕ) → image u v (plus x (y ∷ [])) ≡ plus (moved u v x) (moved u v y ∷ [])
image_of_edge u v x y =
    same_has (image u v (plus x (y ∷ []))) (plus (moved u v x) (moved u v y ∷ [])) (image_rising u v (plus x (y ∷ [])) r) (plus_rising (moved u v x) (moved u v y ∷ []) (tt, tt))
    (λ q. let a = has_image u v q (plus x (y ∷ [])) r in
    let b = has_plus q x (y ∷ []) in
    let c = has_plus v x (y ∷ []) in
    let d = has_plus q (moved u v x) (moved u v y ∷ []) in
    grind (arith, nat_tests))
  where
    r : Rising (plus x (y ∷ []))
    r = plus_rising x (y ∷ []) (tt, tt)

-- where a vertex of an image comes from
image_vertex_comes : (u v a : ℕ) (s : List ℕ) → Rising s → has a (image u v s) ≡ true → (x : ℕ) × (has x s ≡ true) × (moved u v x ≡ a)
image_vertex_comes u v a s r h = go (cases_Bool (has v s)) (cases_eq a u)
  where
    i : has a (image u v s) ≡ cond (has v s) (eqb a u || (not (eqb a v) && has a s)) (has a s)
    i = has_image u v a s r

    go : (has v s ≡ true) ⊎ (has v s ≡ false) → (a ≡ u) ⊎ (a ≡ u → ⊥) → (x : ℕ) × (has x s ≡ true) × (moved u v x ≡ a)
    go (inl e) (inl f) = (v, e, grind (arith, nat_tests))
    go (inl e) (inr f) = let j = i in (a, grind (arith, nat_tests), grind (arith, nat_tests))
    go (inr e) f = let j = i in (a, grind (arith, nat_tests), grind (arith, nat_tests))

-- small facts, stated where no law of a model is in reach of `grind`
has_one : (q x : ℕ) → has q (x ∷ []) ≡ true → q ≡ x
has_one q x h = grind (arith, nat_tests)

has_itself : (x : ℕ) → has x (x ∷ []) ≡ true
has_itself x = grind (arith, nat_tests)

has_two : (q x y : ℕ) → has q (plus x (y ∷ [])) ≡ true → (q ≡ x) ⊎ (q ≡ y)
has_two q x y h = let b = has_plus q x (y ∷ []) in grind (arith, nat_tests)

has_first : (x y : ℕ) → has x (plus x (y ∷ [])) ≡ true
has_first x y = let b = has_plus x x (y ∷ []) in grind (arith, nat_tests)

has_second : (x y : ℕ) → has y (plus x (y ∷ [])) ≡ true
has_second x y = let b = has_plus y x (y ∷ []) in grind (arith, nat_tests)

-- two vertices that go to one are the two that are merged
merged_two : (u v x y : ℕ) → moved u v x ≡ moved u v y → (x ≡ y → ⊥) → ((x ≡ u) × (y ≡ v)) ⊎ ((x ≡ v) × (y ≡ u))
merged_two u v x y e n = grind (arith, nat_tests)

module _ (p u v : ℕ) (M N : Model) (given : Step p u v M N) where
  vertex_goes : (x : ℕ) → In p M (x ∷ []) → In p N (moved u v x ∷ [])
  vertex_goes x i = rw (image_of_vertex u v x) at (given.collapsed.goes p (x ∷ []) i)

  chain_goes : {x y : ℕ} → OnePiece p M x y → OnePiece p N (moved u v x) (moved u v y)
  chain_goes here = here
  chain_goes (step {x} {y} e w) = step (rw (image_of_edge u v x y) at (given.collapsed.goes p (plus x (y ∷ [])) e)) (chain_goes w)

  held_rises : (s : List ℕ) → In p M s → Rising s
  held_rises s i = (given.shaped s (bit_holds p (mask M s) i)).0

  vertex_of_held : (x : ℕ) (s : List ℕ) → In p M s → has x s ≡ true → In p M (x ∷ [])
  vertex_of_held x s i h = given.legal.closed p s (x ∷ []) i (record { some = omega arith; rising = (tt, tt); subset = λ q k. rw (has_one q x k) h })

  edge_of_held : (x y : ℕ) (s : List ℕ) → In p M s → has x s ≡ true → has y s ≡ true → Joined p M x y
  edge_of_held x y s i h k = given.legal.closed p s (plus x (y ∷ [])) i (record { some = plus_some x (y ∷ []); rising = plus_rising x (y ∷ []) (tt, tt); subset = λ q l. inside q (has_two q x y l) })
    where
      inside : (q : ℕ) → (q ≡ x) ⊎ (q ≡ y) → has q s ≡ true
      inside q (inl e) = rw e h
      inside q (inr e) = rw e k

  -- every vertex of the part afterwards is where one goes that it had
  vertex_comes : (y : ℕ) → In p N (y ∷ []) → (x : ℕ) × In p M (x ∷ []) × (moved u v x ≡ y)
  vertex_comes y i =
      let got = given.collapsed.comes p (y ∷ []) i in
      let d = image_vertex_comes u v y got.0 (held_rises got.0 got.1) (rw got.2 (has_itself y)) in
      (d.0, vertex_of_held d.0 got.0 got.1 d.1, d.2)

  -- two vertices that go to one lie in one piece
  merged_in_one_piece : (x y z : ℕ) → In p M (x ∷ []) → In p M (y ∷ []) → moved u v x ≡ moved u v y → OnePiece p M y z → OnePiece p M x z
  merged_in_one_piece x y z i j e w = go (cases_eq x y)
    where
      two : ((x ≡ u) × (y ≡ v)) ⊎ ((x ≡ v) × (y ≡ u)) → Joined p M x y
      two (inl h) = rw (h.0, h.1) (given.linked (rw h.0 at i) (rw h.1 at j))
      two (inr h) = rw (h.0, h.1, plus_comm v u [] tt) (given.linked (rw h.1 at j) (rw h.0 at i))

      go : (x ≡ y) ⊎ (x ≡ y → ⊥) → OnePiece p M x z
      go (inl h) = rw h w
      go (inr h) = step (two (merged_two u v x y e h)) w

  chain_comes : (a b x y : ℕ) → moved u v x ≡ a → moved u v y ≡ b → In p M (x ∷ []) → In p M (y ∷ []) → OnePiece p N a b → OnePiece p M x y
  chain_comes a b x y e f i j here = merged_in_one_piece x y y i j (e ∙ sym f) here
  chain_comes a b x y e f i j (step {y = c} g w) =
      let got = given.collapsed.comes p (plus a (c ∷ [])) g in
      let s = got.0 in
      let r = held_rises s got.1 in
      let ha : has a (image u v s) ≡ true = rw got.2 (has_first a c) in
      let hc : has c (image u v s) ≡ true = rw got.2 (has_second a c) in
      let d = image_vertex_comes u v a s r ha in
      let k = image_vertex_comes u v c s r hc in
      merged_in_one_piece x d.0 y i (vertex_of_held d.0 s got.1 d.1) (e ∙ sym d.2)
      (step (edge_of_held d.0 k.0 s got.1 d.1 k.1) (chain_comes c b k.0 y k.2 f (vertex_of_held k.0 s got.1 k.1) j w))

pub collapse_keeps_pieces : CollapseKeepsPieces
collapse_keeps_pieces p u v M N given = record {
  vertex = vertex_goes p u v M N given;
  all = vertex_comes p u v M N given;
  forward = λ x y i j w. chain_goes p u v M N given w;
  back = λ x y i j w. chain_comes p u v M N given (moved u v x) (moved u v y) x y refl refl i j w;
}
