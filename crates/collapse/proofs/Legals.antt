-- A collapse keeps a model legal; in a legal model the link condition is one equation of masks.
use Rattle.std.proofs.Common.{◌≡◌, ℕ, suc, ◌<◌, ◌≤◌, Bool, true, false, cond, not, ◌&&◌, ◌||◌, eqb, ◌⊎◌, List, [], ◌∷◌, length, sym, ap, ◌∙◌, inl, inr, arith}
use lib.Bits.{bit_and, and_lt}
use Rattle.std.proofs.lemmas.Bool.{and_from, cases_Bool, cases_eq}
use Rattle.std.proofs.lemmas.Bool.Decides.{nat_tests}
use Rattle.complex.specs.Mask.{bit}
use Rattle.complex.specs.Model.{Model, mask, In, Legal}
use Rattle.complex.specs.Simplex.{has, plus, Rising, Face}
use Rattle.complex.proofs.Masks.{bit_holds}
use Rattle.collapse.specs.Image.{less, image, collapse, Collapsed}
use Rattle.collapse.specs.Laws.{Shaped, Exact, CollapseKeepsLegal, UntiedIsExact}
use Rattle.collapse.specs.Link.{Base, Link, Untied}
use Rattle.collapse.proofs.Images.{bit_of_and, same_bits, some_bit, image_rule}
use Rattle.collapse.proofs.Vertices.{plus_rising, less_rising, has_plus, has_less, has_image, image_none, image_rising, plus_some, swapped}

length_less : (v : ℕ) (s : List ℕ) → has v s ≡ true → suc (length (less v s)) ≡ length s
length_less v [] h = grind arith
length_less v (x ∷ s) h = let i : has v s ≡ true → suc (length (less v s)) ≡ length s = length_less v s in grind arith

plus_adds_one_at_most : (u : ℕ) (s : List ℕ) → length (plus u s) ≤ suc (length s)
plus_adds_one_at_most u [] = omega arith
plus_adds_one_at_most u (x ∷ s) = let i = plus_adds_one_at_most u s in grind (arith, nat_tests)

pub length_image : (u v : ℕ) (s : List ℕ) → 0 < length s → (0 < length (image u v s)) × (length (image u v s) ≤ length s)
length_image u v s h =
    let a = plus_some u (less v s) in
    let b = plus_adds_one_at_most u (less v s) in
    let c : has v s ≡ true → suc (length (less v s)) ≡ length s = length_less v s in
    grind arith

-- a face of an image is the image of a face
module _ (u v : ℕ) (n : u ≡ v → ⊥) (s : List ℕ) (r : Rising s) (t : List ℕ) (f : Face t (image u v s)) where
  at : (q : ℕ) → has q t ≡ true → cond (has v s) (eqb q u || (not (eqb q v) && has q s)) (has q s) ≡ true
  at q h = sym (has_image u v q s r) ∙ f.subset q h

  lacks_v : has v t ≡ false
  lacks_v = go (cases_Bool (has v t))
    where
      go : (has v t ≡ true) ⊎ (has v t ≡ false) → has v t ≡ false
      go (inl h) = let a = at v h in grind arith
      go (inr h) = h

  -- the face itself, where its vertices were there
  itself : ((q : ℕ) → has q t ≡ true → has q s ≡ true) → (q : List ℕ) × Face q s × (image u v q ≡ t)
  itself sub = (t, record { some = f.some; rising = f.rising; subset = sub }, image_none u v t lacks_v)

  -- v in the place of u, where u was not there
  with_v : has v s ≡ true → has u s ≡ false → has u t ≡ true → (q : List ℕ) × Face q s × (image u v q ≡ t)
  with_v a b c = (
    plus v (less u t),
    record { some = plus_some v (less u t); rising = plus_rising v (less u t) (less_rising u t f.rising); subset = sub },
    swapped u v t n f.rising c lacks_v,
  )
    where
      sub : (q : ℕ) → has q (plus v (less u t)) ≡ true → has q s ≡ true
      sub q h =
          let i = has_plus q v (less u t) in
          let j = has_less q u t f.rising in
          elim (cases_eq q v) [ inl e ↦ rw e a | inr e ↦ (let k = at q (grind arith) in grind arith) ]

  face_of_image : (q : List ℕ) × Face q s × (image u v q ≡ t)
  face_of_image = go (cases_Bool (has v s)) (cases_Bool (has u t)) (cases_Bool (has u s))
    where
      go : (has v s ≡ true) ⊎ (has v s ≡ false) → (has u t ≡ true) ⊎ (has u t ≡ false) → (has u s ≡ true) ⊎ (has u s ≡ false) → (q : List ℕ) × Face q s × (image u v q ≡ t)
      go (inr a) b c = itself (λ q h. let i = at q h in grind arith)
      go (inl a) (inr b) c = itself (λ q h. let i = at q h in grind arith)
      go (inl a) (inl b) (inl c) = itself (λ q h. let i = at q h in grind arith)
      go (inl a) (inl b) (inr c) = with_v a c b

-- what follows the image rule is legal
module _ (u v : ℕ) (n : u ≡ v → ⊥) (M N : Model) (shaped : Shaped M) (legal : Legal M) (done : Collapsed u v M N) where
  pub collapsed_shaped : Shaped N
  collapsed_shaped t h =
      let p = some_bit (mask N t) h in
      let s = done.comes p.0 t p.1 in
      let old = shaped s.0 (bit_holds p.0 (mask M s.0) s.1) in
      let l = length_image u v s.0 old.1 in
      rw (← s.2) (image_rising u v s.0 old.0, l.0, omega (arith, l.1, old.2))

  pub collapsed_legal : Legal N
  collapsed_legal = record { body = body; closed = closed }
    where
      body : (t : List ℕ) → 0 < mask N t → In 0 N t
      body t h =
          let p = some_bit (mask N t) h in
          let s = done.comes p.0 t p.1 in
          ap (λ q. bit 0 (mask N q)) (sym s.2) ∙ done.goes 0 s.0 (legal.body s.0 (bit_holds p.0 (mask M s.0) s.1))

      closed : (p : ℕ) (t q : List ℕ) → In p N t → Face q t → In p N q
      closed p t q i f =
          let s = done.comes p t i in
          let r = (shaped s.0 (bit_holds p (mask M s.0) s.1)).0 in
          let g = face_of_image u v n s.0 r q (rw s.2 f) in
          ap (λ x. bit p (mask N x)) (sym g.2) ∙ done.goes p g.0 (legal.closed p s.0 g.0 s.1 g.1)

pub collapse_keeps_legal : CollapseKeepsLegal
collapse_keeps_legal u v M n sorted shaped legal =
    let done = image_rule u v M sorted in
    (collapsed_legal u v n M (collapse u v M) shaped legal done, collapsed_shaped u v n M (collapse u v M) shaped legal done)

-- the two lists with one vertex more, as faces of the list with both
pub face_with_u : (u v : ℕ) (s : List ℕ) → Rising s → Face (plus u s) (plus u (plus v s))
face_with_u u v s r = record {
  some = plus_some u s;
  rising = plus_rising u s r;
  subset = λ q h. let a = has_plus q u s in let b = has_plus q u (plus v s) in let c = has_plus q v s in grind arith;
}

pub face_with_v : (u v : ℕ) (s : List ℕ) → Rising s → Face (plus v s) (plus u (plus v s))
face_with_v u v s r = record {
  some = plus_some v s;
  rising = plus_rising v s r;
  subset = λ q h. let b = has_plus q u (plus v s) in grind arith;
}

-- the link condition of a part at one s, as an equation of bits
pub link_bits : (p u v : ℕ) (M : Model) → Legal M → Link p u v M → (s : List ℕ) → Base u v s → bit p (mask M (plus u (plus v s))) ≡ (bit p (mask M (plus u s)) && bit p (mask M (plus v s)))
link_bits p u v M legal link s b =
    meet (bit p (mask M (plus u s))) (bit p (mask M (plus v s))) (bit p (mask M (plus u (plus v s))))
    (λ i. legal.closed p (plus u (plus v s)) (plus u s) i (face_with_u u v s b.rising))
    (λ i. legal.closed p (plus u (plus v s)) (plus v s) i (face_with_v u v s b.rising))
    (link s b)
  where
    meet : (x y z : Bool) → (z ≡ true → x ≡ true) → (z ≡ true → y ≡ true) → (x ≡ true → y ≡ true → z ≡ true) → z ≡ (x && y)
    meet x y z f g h = grind arith

pub untied_is_exact : UntiedIsExact
untied_is_exact u v M legal narrow = (λ untied s b. exact untied s b, λ exact p l s b i j. ap (bit p) (exact s b) ∙ bit_of_and p (mask M (plus u s)) (mask M (plus v s)) ∙ and_from _ _ i j)
  where
    exact : Untied u v M → Exact u v M
    exact untied s b =
        let x = mask M (plus u s) in
        let y = mask M (plus v s) in
        same_bits 8 (mask M (plus u (plus v s))) (bit_and x y) (narrow (plus u (plus v s))) (and_lt 8 x y (narrow (plus u s)) (narrow (plus v s)))
        (λ p l. link_bits p u v M legal (untied p l) s b ∙ sym (bit_of_and p x y))
