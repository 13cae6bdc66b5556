-- A vertex added to a rising list, taken away, replaced: which vertices the list has then.
use Rattle.std.proofs.Common.{◌≡◌, ℕ, suc, ◌<◌, ◌≤◌, Bool, true, false, cond, not, ◌&&◌, ◌||◌, eqb, ◌⊎◌, List, [], ◌∷◌, length, Ordering, Less, Equal, Greater, sym, refl, ap, ◌∙◌, inl, inr, arith}
use Rattle.std.proofs.lemmas.Bool.{and_from, lt-ltb, true≢false}
use Rattle.std.proofs.lemmas.Bool.Decides.{nat_tests}
use Rattle.order.proofs.Ranks.{self_same}
use Rattle.complex.specs.Simplex.{Under, Rising, Face, has, plus, rises, colex}
use Rattle.complex.proofs.Faces.{under_lacks, rises_rising}
use Rattle.complex.proofs.Order.{colex_lawful, colex_exact}
use Rattle.collapse.specs.Image.{less, image}
use Rattle.collapse.specs.Link.{Base}

under_lower : (a b : ℕ) (s : List ℕ) → a ≤ b → Under b s → Under a s
under_lower a b [] h o = tt
under_lower a b (x ∷ s) h o = (omega arith, under_lower a b s h o.1)

under_plus : (b a : ℕ) (s : List ℕ) → b < a → Under b s → Under b (plus a s)
under_plus b a [] h o = (h, tt)
under_plus b a (x ∷ s) h o = let i = under_plus b a s h o.1 in grind (arith, nat_tests)

pub plus_rising : (a : ℕ) (s : List ℕ) → Rising s → Rising (plus a s)
plus_rising a [] r = (tt, tt)
plus_rising a (x ∷ s) r =
    let i = plus_rising a s r.1 in
    let j : a < x → Under a s = λ h. under_lower a x s (omega arith) r.0 in
    let k : x < a → Under x (plus a s) = λ h. under_plus x a s h r.0 in
    grind (arith, nat_tests)

pub has_plus : (q a : ℕ) (s : List ℕ) → has q (plus a s) ≡ (eqb q a || has q s)
has_plus q a [] = refl
has_plus q a (x ∷ s) = let i = has_plus q a s in grind (arith, nat_tests)

under_less : (b a : ℕ) (s : List ℕ) → Under b s → Under b (less a s)
under_less b a [] o = tt
under_less b a (x ∷ s) o = let i = under_less b a s o.1 in grind arith

pub less_rising : (a : ℕ) (s : List ℕ) → Rising s → Rising (less a s)
less_rising a [] r = tt
less_rising a (x ∷ s) r = let i = less_rising a s r.1 in let j = under_less x a s r.0 in grind arith

pub has_less : (q a : ℕ) (s : List ℕ) → Rising s → has q (less a s) ≡ (not (eqb q a) && has q s)
has_less q a [] r = grind arith
has_less q a (x ∷ s) r = let i = has_less q a s r.1 in let j : q ≡ x → has q s ≡ false = λ e. under_lacks x q s (omega arith) r.0 in grind arith

-- rising lists with the same vertices are equal
pub same_has : (s t : List ℕ) → Rising s → Rising t → ((q : ℕ) → has q s ≡ has q t) → s ≡ t
same_has [] [] r c h = refl
same_has [] (y ∷ t) r c h = let a = h y in grind arith
same_has (x ∷ s) [] r c h = let a = h x in grind arith
same_has (x ∷ s) (y ∷ t) r c h = joined head (same_has s t r.1 c.1 tail)
  where
    joined : x ≡ y → s ≡ t → x ∷ s ≡ y ∷ t
    joined e f = cc

    head : x ≡ y
    head =
        let a = h x in
        let b = h y in
        let j : x ≤ y → has x t ≡ false = λ e. under_lacks y x t e c.0 in
        let k : y ≤ x → has y s ≡ false = λ e. under_lacks x y s e r.0 in
        grind arith

    tail : (q : ℕ) → has q s ≡ has q t
    tail q =
        let a = h q in
        let e = head in
        let j : q ≤ y → has q t ≡ false = λ e. under_lacks y q t e c.0 in
        let k : q ≤ x → has q s ≡ false = λ e. under_lacks x q s e r.0 in
        grind arith

pub length_plus : (a : ℕ) (s : List ℕ) → has a s ≡ false → length (plus a s) ≡ suc (length s)
length_plus a [] h = refl
length_plus a (x ∷ s) h = let i : has a s ≡ false → length (plus a s) ≡ suc (length s) = length_plus a s in grind (arith, nat_tests)

pub plus_some : (a : ℕ) (s : List ℕ) → 0 < length (plus a s)
plus_some a [] = omega arith
plus_some a (x ∷ s) = grind arith

pub less_plus : (a : ℕ) (s : List ℕ) → Rising s → has a s ≡ false → less a (plus a s) ≡ s
less_plus a s r h =
    same_has (less a (plus a s)) s (less_rising a (plus a s) (plus_rising a s r)) r
    (λ q. let i = has_less q a (plus a s) (plus_rising a s r) in let j = has_plus q a s in grind arith)

pub plus_less : (a : ℕ) (s : List ℕ) → Rising s → has a s ≡ true → plus a (less a s) ≡ s
plus_less a s r h =
    same_has (plus a (less a s)) s (plus_rising a (less a s) (less_rising a s r)) r
    (λ q. let i = has_plus q a (less a s) in let j = has_less q a s r in grind arith)

pub plus_comm : (a b : ℕ) (s : List ℕ) → Rising s → plus a (plus b s) ≡ plus b (plus a s)
plus_comm a b s r =
    same_has (plus a (plus b s)) (plus b (plus a s)) (plus_rising a (plus b s) (plus_rising b s r)) (plus_rising b (plus a s) (plus_rising a s r))
    (λ q. simp has_plus (grind arith))

-- a vertex that is not there is not taken away
pub less_none : (a : ℕ) (s : List ℕ) → has a s ≡ false → less a s ≡ s
less_none a [] h = refl
less_none a (x ∷ s) h = let i : has a s ≡ false → less a s ≡ s = less_none a s in grind arith

pub image_none : (u v : ℕ) (s : List ℕ) → has v s ≡ false → image u v s ≡ s
image_none u v s h = rw h

pub has_image : (u v q : ℕ) (s : List ℕ) → Rising s → has q (image u v s) ≡ cond (has v s) (eqb q u || (not (eqb q v) && has q s)) (has q s)
has_image u v q s r = let i = has_plus q u (less v s) in let j = has_less q v s r in grind arith

pub image_rising : (u v : ℕ) (s : List ℕ) → Rising s → Rising (image u v s)
image_rising u v s r = let i = plus_rising u (less v s) (less_rising v s r) in grind arith

-- a list with u, in which v stands in its place, has that list as its image
pub swapped : (u v : ℕ) (t : List ℕ) → (u ≡ v → ⊥) → Rising t → has u t ≡ true → has v t ≡ false → image u v (plus v (less u t)) ≡ t
swapped u v t n r h k =
    let i = has_plus v v (less u t) in
    let lacks : has v (less u t) ≡ false = let j = has_less v u t r in grind arith in
    let l = less_plus v (less u t) (less_rising u t r) lacks in
    let m = plus_less u t r h in
    grind arith

-- u in the place of v, and v back in its place
pub swapped_back : (u v : ℕ) (s : List ℕ) → Rising s → has v s ≡ true → has u s ≡ false → plus v (less u (plus u (less v s))) ≡ s
swapped_back u v s r x y =
    let lacks : has u (less v s) ≡ false = let b = has_less u v s r in grind arith in
    rw (less_plus u (less v s) (less_rising v s r) lacks) (plus_less v s r x)

pub replaced_has_u : (u v : ℕ) (s : List ℕ) → has u (plus u (less v s)) ≡ true
replaced_has_u u v s = let a = has_plus u u (less v s) in grind arith

pub replaced_lacks_v : (u v : ℕ) (s : List ℕ) → (u ≡ v → ⊥) → Rising s → has v (plus u (less v s)) ≡ false
replaced_lacks_v u v s n r = let a = has_plus v u (less v s) in let b = has_less v v s r in grind arith

-- u in the place of v makes a face of a list that has u
pub replaced_face : (u v : ℕ) (s : List ℕ) → Rising s → has u s ≡ true → Face (plus u (less v s)) s
replaced_face u v s r y = record {
  some = plus_some u (less v s);
  rising = plus_rising u (less v s) (less_rising v s r);
  subset = λ q h. let a = has_plus q u (less v s) in let b = has_less q v s r in let e : q ≡ u → has q s ≡ true = λ e. rw e y in grind arith;
}

-- whether two lists are equal, and whether a list rises, can be told
pub alike : (q k : List ℕ) → (q ≡ k) ⊎ (q ≡ k → ⊥)
alike q k = go (colex q k) refl
  where
    apart : (o : Ordering) → colex q k ≡ o → (o ≡ Equal → ⊥) → q ≡ k → ⊥
    apart o e n h = n (sym e ∙ ap (λ x. colex x k) h ∙ self_same colex colex_lawful k)

    go : (o : Ordering) → colex q k ≡ o → (q ≡ k) ⊎ (q ≡ k → ⊥)
    go Less e = inr (apart Less e (λ h. let z : ◌≡◌ {A = ℕ} 0 1 = cc in omega arith))
    go Equal e = inl (colex_exact q k e)
    go Greater e = inr (apart Greater e (λ h. let z : ◌≡◌ {A = ℕ} 0 1 = cc in omega arith))

pub rising_rises : (s : List ℕ) → Rising s → rises s ≡ true
rising_rises [] r = refl
rising_rises (x ∷ []) r = refl
rising_rises (x ∷ (y ∷ ys)) r = and_from _ _ (lt-ltb x y r.0.0) (rising_rises (y ∷ ys) r.1)

pub rising_told : (s : List ℕ) → Rising s ⊎ (Rising s → ⊥)
rising_told s = go (rises s) refl
  where
    go : (b : Bool) → rises s ≡ b → Rising s ⊎ (Rising s → ⊥)
    go true e = inl (rises_rising s e)
    go false e = inr (λ r. true≢false (sym (rising_rises s r) ∙ e))

-- what is left of a list without u and v
abbrev pub rest : ℕ → ℕ → List ℕ → List ℕ
rest u v q = less u (less v q)

-- a rising list by what is left of it
module _ (u v : ℕ) (n : u ≡ v → ⊥) where
  pub rest_is_base : (t : List ℕ) → Rising t → Base u v (rest u v t)
  rest_is_base t r =
      let a = has_less v v t r in
      let b = has_less u u (less v t) (less_rising v t r) in
      let c = has_less v u (less v t) (less_rising v t r) in
      record { rising = less_rising u (less v t) (less_rising v t r); no_u = grind arith; no_v = grind arith }

  pub by_u : (t : List ℕ) → Rising t → has u t ≡ true → has v t ≡ false → t ≡ plus u (rest u v t)
  by_u t r h k = rw (less_none v t k) (sym (plus_less u t r h))

  pub by_v : (t : List ℕ) → Rising t → has u t ≡ false → has v t ≡ true → t ≡ plus v (rest u v t)
  by_v t r h k =
      let a : has u (less v t) ≡ false = let b = has_less u v t r in grind arith in
      rw (less_none u (less v t) a) (sym (plus_less v t r k))

  pub by_both : (t : List ℕ) → Rising t → has u t ≡ true → has v t ≡ true → t ≡ plus u (plus v (rest u v t))
  by_both t r h k =
      let a : has u (less v t) ≡ true = let b = has_less u v t r in grind arith in
      rw (plus_comm u v (rest u v t) (rest_is_base t r).rising, plus_less u (less v t) (less_rising v t r) a) (sym (plus_less v t r k))

  -- the three lists over a base
  module _ (s : List ℕ) (base : Base u v s) where
    pub with_u_has_u : has u (plus u s) ≡ true
    with_u_has_u = let a = has_plus u u s in grind arith

    pub with_u_lacks_v : has v (plus u s) ≡ false
    with_u_lacks_v = let a = has_plus v u s in let r = base.no_v in grind arith

    pub with_v_has_v : has v (plus v s) ≡ true
    with_v_has_v = let a = has_plus v v s in grind arith

    pub with_v_lacks_u : has u (plus v s) ≡ false
    with_v_lacks_u = let a = has_plus u v s in let r = base.no_u in grind arith

    pub with_both_has_u : has u (plus u (plus v s)) ≡ true
    with_both_has_u = let a = has_plus u u (plus v s) in grind arith

    pub with_both_has_v : has v (plus u (plus v s)) ≡ true
    with_both_has_v = let a = has_plus v u (plus v s) in let b = with_v_has_v in grind arith

    pub u_is_not_v : plus u s ≡ plus v s → ⊥
    u_is_not_v e = true≢false (sym with_v_has_v ∙ sym (ap (has v) e) ∙ with_u_lacks_v)

    pub u_is_not_both : plus u s ≡ plus u (plus v s) → ⊥
    u_is_not_both e = true≢false (sym with_both_has_v ∙ sym (ap (has v) e) ∙ with_u_lacks_v)

    pub v_is_not_both : plus v s ≡ plus u (plus v s) → ⊥
    v_is_not_both e = true≢false (sym with_both_has_u ∙ sym (ap (has u) e) ∙ with_v_lacks_u)

    pub rest_of_u : rest u v (plus u s) ≡ s
    rest_of_u = rw (less_none v (plus u s) with_u_lacks_v) (less_plus u s base.rising base.no_u)

    pub rest_of_v : rest u v (plus v s) ≡ s
    rest_of_v = rw (less_plus v s base.rising base.no_v) (less_none u s base.no_u)

    pub rest_of_both : rest u v (plus u (plus v s)) ≡ s
    rest_of_both = rw (plus_comm u v s base.rising, less_plus v (plus u s) (plus_rising u s base.rising) with_u_lacks_v) (less_plus u s base.rising base.no_u)
