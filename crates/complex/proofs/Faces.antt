-- The list of faces has every face, nothing else, and none twice.
use Rattle.std.proofs.Common.{◌≡◌, ℕ, ◌<◌, ◌≤◌, Bool, true, false, ◌||◌, eqb, ◌⊎◌, List, [], ◌∷◌, ◌++◌, map, length, Ordering, Less, Equal, Greater, sym, refl, ap, ◌∙◌, inl, inr, arith}
use Rattle.std.specs.Ordering.{is_eq}
use Rattle.std.proofs.lemmas.Bool.{and_parts, and_from, cases_eq, lt-ltb, ltb-true, eqb-true, eq-eqb, ne_eqb, or_cases, or_left, or_right, or_from, true≢false}
use Rattle.order.proofs.Ranks.{self_same}
use Rattle.complex.specs.Simplex.{colex, rises, below, has, Under, Rising, Face, faces, among}
use Rattle.complex.proofs.Order.{colex_exact, colex_lawful}

is_equal : (o : Ordering) → is_eq o ≡ true → o ≡ Equal
is_equal Less h = cc
is_equal Equal h = refl
is_equal Greater h = cc

pub same_simplex : (s t : List ℕ) → is_eq (colex s t) ≡ true → s ≡ t
same_simplex s t h = colex_exact s t (is_equal (colex s t) h)

pub same_as_itself : (s : List ℕ) → is_eq (colex s s) ≡ true
same_as_itself s = ap is_eq (self_same colex colex_lawful s)

-- what is above a vertex does not have it
pub under_lacks : (a q : ℕ) (s : List ℕ) → q ≤ a → Under a s → has q s ≡ false
under_lacks a q [] h u = refl
under_lacks a q (x ∷ s) h u = or_from _ _ (ne_eqb q x (omega arith)) (under_lacks a q s h u.1)

-- a list whose vertices are all above a
under_from : (a : ℕ) (s : List ℕ) → ((q : ℕ) → has q s ≡ true → a < q) → Under a s
under_from a [] f = tt
under_from a (x ∷ s) f = (f x (or_left _ _ (eq-eqb x x refl)), under_from a s (λ q h. f q (or_right _ _ h)))

above : (a q : ℕ) (s : List ℕ) → Under a s → has q s ≡ true → a < q
above a q [] u h = absurd (true≢false (sym h))
above a q (x ∷ s) u h = go (above a q s u.1) (or_cases _ _ h)
  where
    go : (has q s ≡ true → a < q) → (eqb q x ≡ true) ⊎ (has q s ≡ true) → a < q
    go more (inl e) = let i = eqb-true q x e in omega arith
    go more (inr t) = more t

pub face_of_face : (r t s : List ℕ) → Face r t → Face t s → Face r s
face_of_face r t s f g = record { some = f.some; rising = f.rising; subset = λ a h. g.subset a (f.subset a h) }

pub face_of_itself : (s : List ℕ) → 0 < length s → Rising s → Face s s
face_of_itself s n r = record { some = n; rising = r; subset = λ a h. h }

among_append : (s : List ℕ) (fs gs : List (List ℕ)) → among s (fs ++ gs) ≡ (among s fs || among s gs)
among_append s [] gs = refl
among_append s (f ∷ fs) gs = let i = among_append s fs gs in grind arith

-- the members of a list, each with x in front
module _ (x : ℕ) where
  behind : (s : List ℕ) (fs : List (List ℕ)) → among s (map (λ f. x ∷ f) fs) ≡ true → (f : List ℕ) × (s ≡ x ∷ f) × (among f fs ≡ true)
  behind s [] h = absurd (true≢false (sym h))
  behind s (f ∷ fs) h = go (behind s fs) (or_cases _ _ h)
    where
      go : (among s (map (λ f. x ∷ f) fs) ≡ true → (g : List ℕ) × (s ≡ x ∷ g) × (among g fs ≡ true)) →
          (is_eq (colex s (x ∷ f)) ≡ true) ⊎ (among s (map (λ f. x ∷ f) fs) ≡ true) → (g : List ℕ) × (s ≡ x ∷ g) × (among g (f ∷ fs) ≡ true)
      go more (inl e) = (f, same_simplex s (x ∷ f) e, or_left _ _ (same_as_itself f))
      go more (inr e) = let i = more e in (i.0, i.1, or_right _ _ i.2)

  in_front : (f : List ℕ) (fs : List (List ℕ)) → among f fs ≡ true → among (x ∷ f) (map (λ f. x ∷ f) fs) ≡ true
  in_front f [] h = absurd (true≢false (sym h))
  in_front f (g ∷ fs) h = go (in_front f fs) (or_cases _ _ h)
    where
      go : (among f fs ≡ true → among (x ∷ f) (map (λ f. x ∷ f) fs) ≡ true) →
          (is_eq (colex f g) ≡ true) ⊎ (among f fs ≡ true) → among (x ∷ f) (map (λ f. x ∷ f) (g ∷ fs)) ≡ true
      go more (inl e) = or_left _ _ (ap (λ h. is_eq (colex (x ∷ h) (x ∷ g))) (same_simplex f g e) ∙ same_as_itself (x ∷ g))
      go more (inr e) = or_right _ _ (more e)

pub listed_is_face : (s t : List ℕ) → Rising s → among t (faces s) ≡ true → Face t s
listed_is_face [] t r h = absurd (true≢false (sym h))
listed_is_face (x ∷ xs) t r h = go (λ f. listed_is_face xs f r.1) (or_cases _ _ h)
  where
    wider : (f : List ℕ) → Face f xs → Face f (x ∷ xs)
    wider f g = record { some = g.some; rising = g.rising; subset = λ a i. or_right _ _ (g.subset a i) }

    longer : (f : List ℕ) → Face f xs → Face (x ∷ f) (x ∷ xs)
    longer f g = record {
      some = omega arith;
      rising = (under_from x f (λ q i. above x q xs r.0 (g.subset q i)), g.rising);
      subset = λ a i. inside a (or_cases _ _ i);
    }
      where
        inside : (a : ℕ) → (eqb a x ≡ true) ⊎ (has a f ≡ true) → has a (x ∷ xs) ≡ true
        inside a (inl e) = or_left _ _ e
        inside a (inr e) = or_right _ _ (g.subset a e)

    point : Face (x ∷ []) (x ∷ xs)
    point = record { some = omega arith; rising = (tt, tt); subset = λ a i. inside a (or_cases _ _ i) }
      where
        inside : (a : ℕ) → (eqb a x ≡ true) ⊎ (has a [] ≡ true) → has a (x ∷ xs) ≡ true
        inside a (inl e) = or_left _ _ e
        inside a (inr e) = absurd (true≢false (sym e))

    rest : ((f : List ℕ) → among f (faces xs) ≡ true → Face f xs) →
        (among t (faces xs) ≡ true) ⊎ (among t (map (λ f. x ∷ f) (faces xs)) ≡ true) → Face t (x ∷ xs)
    rest more (inl e) = wider t (more t e)
    rest more (inr e) = let b = behind x t (faces xs) e in rw b.1 (longer b.0 (more b.0 b.2))

    go : ((f : List ℕ) → among f (faces xs) ≡ true → Face f xs) →
        (is_eq (colex t (x ∷ [])) ≡ true) ⊎ (among t (faces xs ++ map (λ f. x ∷ f) (faces xs)) ≡ true) → Face t (x ∷ xs)
    go more (inl e) = rw (same_simplex t (x ∷ []) e) point
    go more (inr e) = rest more (or_cases _ _ (sym (among_append t (faces xs) (map (λ f. x ∷ f) (faces xs))) ∙ e))

pub face_is_listed : (s t : List ℕ) → Rising s → Face t s → among t (faces s) ≡ true
face_is_listed s [] r f = let l = f.some in absurd (omega arith)
face_is_listed [] (y ∷ ys) r f = absurd (true≢false (sym (f.subset y (or_left _ _ (eq-eqb y y refl)))))
face_is_listed (x ∷ xs) (y ∷ ys) r f = go (λ t. face_is_listed xs t r.1) (cases_eq y x)
  where
    -- a vertex of the face that is not x is one of the rest
    further : (q : ℕ) → has q (y ∷ ys) ≡ true → (q ≡ x → ⊥) → has q xs ≡ true
    further q h n = pick (or_cases _ _ (f.subset q h))
      where
        pick : (eqb q x ≡ true) ⊎ (has q xs ≡ true) → has q xs ≡ true
        pick (inl e) = absurd (n (eqb-true q x e))
        pick (inr e) = e

    at_first : ((t : List ℕ) → Face t xs → among t (faces xs) ≡ true) → y ≡ x → (ys : List ℕ) → Rising (y ∷ ys) →
        ((q : ℕ) → has q ys ≡ true → has q xs ≡ true) → among (y ∷ ys) (faces (x ∷ xs)) ≡ true
    at_first more e [] u g = or_left _ _ (ap (λ a. is_eq (colex (a ∷ []) (x ∷ []))) e ∙ same_as_itself (x ∷ []))
    at_first more e (z ∷ zs) u g =
        let i = more (z ∷ zs) (record { some = omega arith; rising = u.1; subset = g }) in
        let t = y ∷ (z ∷ zs) in
        let fronts = map (λ f. x ∷ f) (faces xs) in
        or_right (is_eq (colex t (x ∷ []))) (among t (faces xs ++ fronts)) (among_append t (faces xs) fronts ∙ or_right (among t (faces xs)) (among t fronts) (ap (λ a. among (a ∷ (z ∷ zs)) (map (λ f. x ∷ f) (faces xs))) e ∙ in_front x (z ∷ zs) (faces xs) i))

    go : ((t : List ℕ) → Face t xs → among t (faces xs) ≡ true) → (y ≡ x) ⊎ (y ≡ x → ⊥) → among (y ∷ ys) (faces (x ∷ xs)) ≡ true
    go more (inl e) = at_first more e ys f.rising (λ q h. further q (or_right _ _ h) (λ d. let l = above y q ys f.rising.0 h in omega arith))
    go more (inr n) =
        let low = above x y xs r.0 (further y (or_left _ _ (eq-eqb y y refl)) n) in
        let none : (q : ℕ) → has q (y ∷ ys) ≡ true → q ≡ x → ⊥ = λ q h d. late q (or_cases _ _ h) d low in
        let i = more (y ∷ ys) (record { some = f.some; rising = f.rising; subset = λ q h. further q h (none q h) }) in
        or_right _ _ (among_append (y ∷ ys) (faces xs) (map (λ f. x ∷ f) (faces xs)) ∙ or_left _ _ i)
      where
        late : (q : ℕ) → (eqb q y ≡ true) ⊎ (has q ys ≡ true) → q ≡ x → x < y → ⊥
        late q (inl e) d l = let i = eqb-true q y e in omega arith
        late q (inr e) d l = let i = above y q ys f.rising.0 e in omega arith

-- none of the list stands in it twice
abbrev pub Distinct : List (List ℕ) → Type 0
Distinct [] = Unit {0}
Distinct (f ∷ fs) = (among f fs ≡ false) × Distinct fs

not_both : (b : Bool) → (b ≡ true → ⊥) → b ≡ false
not_both true f = absurd (f refl)
not_both false f = refl

distinct_append : (fs gs : List (List ℕ)) → Distinct fs → Distinct gs → ((t : List ℕ) → among t fs ≡ true → among t gs ≡ true → ⊥) → Distinct (fs ++ gs)
distinct_append [] gs d e n = e
distinct_append (f ∷ fs) gs d e n = (
  among_append f fs gs ∙ or_from _ _ d.0 (not_both (among f gs) (n f (or_left _ _ (same_as_itself f)))),
  distinct_append fs gs d.1 e (λ t h. n t (or_right _ _ h)),
)

tails_same : (x : ℕ) (f g : List ℕ) → x ∷ f ≡ x ∷ g → f ≡ g
tails_same x f g e = cc

distinct_in_front : (x : ℕ) (fs : List (List ℕ)) → Distinct fs → Distinct (map (λ f. x ∷ f) fs)
distinct_in_front x [] d = tt
distinct_in_front x (f ∷ fs) d =
    (not_both (among (x ∷ f) (map (λ g. x ∷ g) fs)) (λ h. let b = behind x (x ∷ f) fs h in true≢false (sym b.2 ∙ ap (λ g. among g fs) (sym (tails_same x f b.0 b.1)) ∙ d.0)), distinct_in_front x fs d.1)

pub faces_distinct : (s : List ℕ) → Rising s → Distinct (faces s)
faces_distinct [] r = tt
faces_distinct (x ∷ xs) r = (
  not_both (among (x ∷ []) (faces xs ++ map (λ f. x ∷ f) (faces xs))) (λ h. point (or_cases _ _ (sym (among_append (x ∷ []) (faces xs) (map (λ f. x ∷ f) (faces xs))) ∙ h))),
  distinct_append (faces xs) (map (λ f. x ∷ f) (faces xs)) (faces_distinct xs r.1) (distinct_in_front x (faces xs) (faces_distinct xs r.1)) apart,
)
  where
    lacks : (t : List ℕ) → among t (faces xs) ≡ true → has x t ≡ true → ⊥
    lacks t h i = true≢false (sym ((listed_is_face xs t r.1 h).subset x i) ∙ under_lacks x x xs (omega arith) r.0)

    first : (f : List ℕ) → has x (x ∷ f) ≡ true
    first f = or_left _ _ (eq-eqb x x refl)

    apart : (t : List ℕ) → among t (faces xs) ≡ true → among t (map (λ f. x ∷ f) (faces xs)) ≡ true → ⊥
    apart t h i = let b = behind x t (faces xs) i in lacks t h (ap (has x) b.1 ∙ first b.0)

    point : (among (x ∷ []) (faces xs) ≡ true) ⊎ (among (x ∷ []) (map (λ f. x ∷ f) (faces xs)) ≡ true) → ⊥
    point (inl h) = lacks (x ∷ []) h (first [])
    point (inr h) =
        let b = behind x (x ∷ []) (faces xs) h in
        let l = (listed_is_face xs b.0 r.1 b.2).some in
        let e : length b.0 ≡ 0 = ap length (sym (tails_same x [] b.0 b.1)) in
        omega arith

-- a simplex has 15 faces at most
pub few_faces : (s : List ℕ) → length s ≤ 4 → length (faces s) ≤ 15
few_faces [] h = omega arith
few_faces (a ∷ []) h = omega arith
few_faces (a ∷ (b ∷ [])) h = omega arith
few_faces (a ∷ (b ∷ (c ∷ []))) h = omega arith
few_faces (a ∷ (b ∷ (c ∷ (d ∷ [])))) h = omega arith
few_faces (a ∷ (b ∷ (c ∷ (d ∷ (e ∷ s))))) h = absurd (omega arith)

-- the two ways to say that a list rises
pub rises_rising : (s : List ℕ) → rises s ≡ true → Rising s
rises_rising [] h = tt
rises_rising (x ∷ []) h = (tt, tt)
rises_rising (x ∷ (y ∷ ys)) h =
    let l : x < y = ltb-true x y (and_parts _ _ h).0 in
    let more : Rising (y ∷ ys) = rises_rising (y ∷ ys) (and_parts _ _ h).1 in
    ((l, under_from x ys (λ q i. let k : y < q = above y q ys more.0 i in omega (arith, l, k))), more)

-- whether a list is a face can be told
pub told : (s q : List ℕ) → Rising s → Face q s ⊎ (Face q s → ⊥)
told s q r = go (among q (faces s)) refl
  where
    go : (b : Bool) → among q (faces s) ≡ b → Face q s ⊎ (Face q s → ⊥)
    go true e = inl (listed_is_face s q r e)
    go false e = inr (λ f. true≢false (sym (face_is_listed s q r f) ∙ e))

-- the faces of a simplex are in range where it is
below_has : (n : ℕ) (s : List ℕ) → below n s ≡ true → (q : ℕ) → has q s ≡ true → q < n
below_has n [] b q h = absurd (true≢false (sym h))
below_has n (x ∷ s) b q h = go (below_has n s (and_parts _ _ b).1 q) (or_cases _ _ h)
  where
    go : (has q s ≡ true → q < n) → (eqb q x ≡ true) ⊎ (has q s ≡ true) → q < n
    go more (inl e) = let i = eqb-true q x e in let l = ltb-true x n (and_parts _ _ b).0 in omega arith
    go more (inr i) = more i

below_from : (n : ℕ) (s : List ℕ) → ((q : ℕ) → has q s ≡ true → q < n) → below n s ≡ true
below_from n [] f = refl
below_from n (x ∷ s) f = and_from _ _ (lt-ltb x n (f x (or_left _ _ (eq-eqb x x refl)))) (below_from n s (λ q h. f q (or_right _ _ h)))

pub face_below : (n : ℕ) (s t : List ℕ) → below n s ≡ true → Face t s → below n t ≡ true
face_below n s t b f = below_from n t (λ q h. below_has n s b q (f.subset q h))
