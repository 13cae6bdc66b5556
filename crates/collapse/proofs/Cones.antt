-- The link conditions of the body and all parts are one condition in the body extended by dummies.
use Rattle.std.proofs.Common.{◌≡◌, ℕ, zero, suc, ◌<◌, ◌≤◌, true, false, eqb, ◌⊎◌, List, [], ◌∷◌, length, sym, refl, ap, ◌∙◌, inl, inr, arith}
use Rattle.std.proofs.lemmas.Bool.{or_cases, or_left, or_right}
use Rattle.complex.specs.Model.{Model, mask, In, Legal}
use Rattle.complex.specs.Simplex.{has, plus, Rising, Face}
use Rattle.complex.proofs.Masks.{bit_holds}
use Rattle.collapse.specs.Link.{Base, Link, Untied}
use Rattle.collapse.specs.Laws.{Shaped}
use Rattle.collapse.specs.Extended.{Extended, plain, cone, Extension, VertexLink, EdgeLink, LinksMeet, ExtendedLink}
use Rattle.collapse.proofs.Vertices.{plus_rising, plus_some, has_plus, plus_comm}

plus_not_empty : (a : ℕ) (s : List ℕ) → plus a s ≡ [] → ⊥
plus_not_empty a s e = let l = plus_some a s in let z : length (plus a s) ≡ 0 = ap length e in omega arith

-- a simplex is a face of itself with a vertex added
face_of_plus : (a x : ℕ) (s : List ℕ) → Rising (x ∷ s) → Face (x ∷ s) (plus a (x ∷ s))
face_of_plus a x s r = record { some = omega arith; rising = r; subset = λ q h. has_plus q a (x ∷ s) ∙ or_right _ _ h }

-- s + u is a face of s + u + v
face_of_two : (u v : ℕ) (s : List ℕ) → Rising s → Face (plus u s) (plus u (plus v s))
face_of_two u v s r = record { some = plus_some u s; rising = plus_rising u s r; subset = λ q h. inside q (or_cases _ _ (sym (has_plus q u s) ∙ h)) }
  where
    inside : (q : ℕ) → (eqb q u ≡ true) ⊎ (has q s ≡ true) → has q (plus u (plus v s)) ≡ true
    inside q (inl e) = has_plus q u (plus v s) ∙ or_left _ _ e
    inside q (inr e) = has_plus q u (plus v s) ∙ or_right _ _ (has_plus q v s ∙ or_right _ _ e)

module _ (low u v : ℕ) (M : Model) (few : low ≤ 1) (legal : Legal M) (shaped : Shaped M) (edge : 0 < mask M (plus u (v ∷ []))) where
  part_of_cone : (p a : ℕ) (s : List ℕ) → (plus a s ≡ []) ⊎ In p M (plus a s) → In p M (plus a s)
  part_of_cone p a s (inl e) = absurd (plus_not_empty a s e)
  part_of_cone p a s (inr i) = i

  base_rises : (p : ℕ) (s : List ℕ) → (s ≡ []) ⊎ In p M s → Rising s
  base_rises p s (inl e) = rw e tt
  base_rises p s (inr i) = (shaped s (bit_holds p (mask M s) i)).0

  base_there : (p : ℕ) (s : List ℕ) → Rising s → In p M (plus u s) → (s ≡ []) ⊎ In p M s
  base_there p [] r i = inl refl
  base_there p (x ∷ s) r i = inr (legal.closed p (plus u (x ∷ s)) (x ∷ s) i (face_of_plus u x s r))

  both_there : (p : ℕ) (s : List ℕ) → Rising s → In p M (plus u (plus v s)) → In p M (plus u s) × In p M (plus v s)
  both_there p s r i = (
    legal.closed p (plus u (plus v s)) (plus u s) i (face_of_two u v s r),
    legal.closed p (plus v (plus u s)) (plus v s) (rw (plus_comm u v s r) at i) (face_of_two v u s r),
  )

  by_cone : LinksMeet low M u v → (p : ℕ) → low ≤ p → p < 8 → Link p u v M
  by_cone meet p l h s b i j =
      let there : Extension low M (cone p s) = (l, h, base_there p s b.rising i) in
      let got = meet.in_edge (cone p s)
      (record { there = there; without = b.no_u; with_it = (l, h, inr i) })
      (record { there = there; without = b.no_v; with_it = (l, h, inr j) }) in
      part_of_cone p u (plus v s) got.with_both.2

  by_body : LinksMeet low M u v → Link 0 u v M
  by_body meet [] b i j = legal.body (plus u (v ∷ [])) edge
  by_body meet (x ∷ s) b i j =
      let there : In 0 M (x ∷ s) = legal.closed 0 (plus u (x ∷ s)) (x ∷ s) i (face_of_plus u x s b.rising) in
      let got = meet.in_edge (plain (x ∷ s)) (record { there = there; without = b.no_u; with_it = i }) (record { there = there; without = b.no_v; with_it = j }) in
      got.with_both

  untied_from_meet : LinksMeet low M u v → Untied u v M
  untied_from_meet meet zero h = by_body meet
  untied_from_meet meet (suc p) h = by_cone meet (suc p) (omega arith) h

  base : (s : List ℕ) → Rising s → has u s ≡ false → has v s ≡ false → Base u v s
  base s r a b = record { rising = r; no_u = a; no_v = b }

  shared_in_edge : Untied u v M → (t : Extended) → VertexLink low M u t → VertexLink low M v t → EdgeLink low M u v t
  shared_in_edge free (plain s) a b = record {
    there = a.there;
    without_u = a.without;
    without_v = b.without;
    with_both = free 0 (omega arith) s (base s (base_rises 0 s (inr a.there)) a.without b.without) a.with_it b.with_it;
  }
  shared_in_edge free (cone p s) a b =
      let l = a.there.0 in
      let h = a.there.1 in
      let link = free p h s (base s (base_rises p s a.there.2) a.without b.without) in
      record {
        there = a.there;
        without_u = a.without;
        without_v = b.without;
        with_both = (l, h, inr (link (part_of_cone p u s a.with_it.2) (part_of_cone p v s b.with_it.2)));
      }

  edge_in_both : (t : Extended) → EdgeLink low M u v t → VertexLink low M u t × VertexLink low M v t
  edge_in_both (plain s) e =
      let both = both_there 0 s (base_rises 0 s (inr e.there)) e.with_both in
      (record { there = e.there; without = e.without_u; with_it = both.0 }, record { there = e.there; without = e.without_v; with_it = both.1 })
  edge_in_both (cone p s) e =
      let l = e.there.0 in
      let h = e.there.1 in
      let both = both_there p s (base_rises p s e.there.2) (part_of_cone p u (plus v s) e.with_both.2) in
      (record { there = e.there; without = e.without_u; with_it = (l, h, inr both.0) }, record { there = e.there; without = e.without_v; with_it = (l, h, inr both.1) })

pub extended_link : ExtendedLink
extended_link low u v M few legal shaped apart edge = (
  untied_from_meet low u v M few legal shaped edge,
  λ free. record {
    in_edge = shared_in_edge low u v M few legal shaped edge free;
    in_u = λ t e. (edge_in_both low u v M few legal shaped edge t e).0;
    in_v = λ t e. (edge_in_both low u v M few legal shaped edge t e).1;
  },
)
