-- The image rule: which simplexes a collapse makes, and their masks.
use Rattle.std.proofs.Common.{◌≡◌, ℕ, zero, suc, ◌+◌, ◌/◌, ◌%◌, ◌^◌, ◌<◌, ◌≤◌, Bool, true, false, cond, ◌&&◌, ◌||◌, eqb, ◌⊎◌, List, [], ◌∷◌, Some, None, fold, Option, Ordering, Less, Equal, Greater, unwrap_or, sym, refl, ap, ◌∙◌, inl, inr, pow-suc, add-one, arith}
use lib.Bits.{bit_or, bit_and, and_shr, and_mod}
use Rattle.std.specs.Ordering.{is_eq}
use Rattle.std.proofs.lemmas.Nat.{shr-shr, shr_below}
use Rattle.std.proofs.lemmas.Bool.{and_parts, cases_Bool, or_cases, ne_eqb, or_left, or_right, true≢false}
use Rattle.order.specs.Assoc.{by, before, lookup}
use Rattle.order.specs.declared.record.Record.{Record}
use Rattle.order.proofs.Maps.{lookup_put, same_lookups}
use Rattle.order.proofs.Ranks.{is_less, self_same}
use Rattle.complex.specs.Mask.{bit}
use Rattle.complex.specs.Model.{Model, mask, present, write, Sorted, In, Legal}
use Rattle.complex.specs.Simplex.{colex, has, plus, Rising}
use Rattle.complex.proofs.Masks.{bit_of_or, bit_of_none, bit_holds}
use Rattle.complex.proofs.Order.{colex_lawful, colex_exact}
use Rattle.complex.proofs.Faces.{same_simplex, same_as_itself}
use Rattle.complex.proofs.Writes.{mask_write, write_keeps_order}
use Rattle.collapse.specs.Image.{less, image, image_one, collapse, Collapsed}
use Rattle.collapse.specs.Laws.{Positive, Shaped, merged, Merged, ImageRule, ImageUnique, ImageMasks}
use Rattle.collapse.proofs.Vertices.{image_none, image_rising, swapped, swapped_back, replaced_has_u, replaced_lacks_v, replaced_face}

-- the bits tell a mask
pub bit_of_and : (p a b : ℕ) → bit p (bit_and a b) ≡ (bit p a && bit p b)
bit_of_and p a b = rw (and_shr a b p) (lowest (a / 2 ^ p) (b / 2 ^ p))
  where
    parity : (a : ℕ) → (a % 2 ≡ 0) ⊎ (a % 2 ≡ 1)
    parity a = grind arith

    lowest : (a b : ℕ) → eqb (bit_and a b % 2) 1 ≡ (eqb (a % 2) 1 && eqb (b % 2) 1)
    lowest a b = rw (and_mod a b 1) (go (parity a) (parity b))
      where
        go : (a % 2 ≡ 0) ⊎ (a % 2 ≡ 1) → (b % 2 ≡ 0) ⊎ (b % 2 ≡ 1) → eqb (bit_and (a % 2) (b % 2)) 1 ≡ (eqb (a % 2) 1 && eqb (b % 2) 1)
        go (inl x) y = rw x
        go (inr x) (inl y) = rw (x, y)
        go (inr x) (inr y) = rw (x, y)

-- masks of k bits that have the same bits are equal
pub same_bits : (k a b : ℕ) → a < 2 ^ k → b < 2 ^ k → ((p : ℕ) → p < k → bit p a ≡ bit p b) → a ≡ b
same_bits zero a b x y h = omega arith
same_bits (suc k) a b x y h =
    let low = h 0 (omega arith) in
    let halves : a / 2 ≡ b / 2 = same_bits k (a / 2) (b / 2) (shr_below a k 1 (rw add-one x)) (shr_below b k 1 (rw add-one y)) high in
    grind arith
  where
    high : (p : ℕ) → p < k → bit p (a / 2) ≡ bit p (b / 2)
    high p l = rw (shr-shr a 1 p, shr-shr b 1 p) (h (1 + p) (omega arith))

-- a mask has fewer bits than its number
few_bits : (n m : ℕ) → n ≤ m → n < 2 ^ m
few_bits zero zero h = omega arith
few_bits zero (suc m) h = let more = few_bits zero m (omega arith) in omega (arith, pow-suc 2 m)
few_bits (suc n) zero h = absurd (omega arith)
few_bits (suc n) (suc m) h = let more = few_bits n m (omega arith) in omega (arith, pow-suc 2 m)

pub all_bits : (a b : ℕ) → ((p : ℕ) → bit p a ≡ bit p b) → a ≡ b
all_bits a b h = same_bits (a + b) a b (few_bits a (a + b) (omega arith)) (few_bits b (a + b) (omega arith)) (λ p l. h p)

-- a mask that is not 0 has a bit
some_bit_of : (k m : ℕ) → m < 2 ^ k → 0 < m → (p : ℕ) × (bit p m ≡ true)
some_bit_of zero m x h = absurd (omega arith)
some_bit_of (suc k) m x h = go (λ l. some_bit_of k (m / 2) (shr_below m k 1 (rw add-one x)) l) (cases_Bool (bit 0 m))
  where
    go : (0 < m / 2 → (p : ℕ) × (bit p (m / 2) ≡ true)) → (bit 0 m ≡ true) ⊎ (bit 0 m ≡ false) → (p : ℕ) × (bit p m ≡ true)
    go more (inl e) = (0, e)
    go more (inr e) =
        let i = more (grind arith) in
        (1 + i.0, rw (shr-shr m 1 i.0) at i.1)

pub some_bit : (m : ℕ) → 0 < m → (p : ℕ) × (bit p m ≡ true)
some_bit m h = some_bit_of m m (few_bits m m (omega arith)) h

-- this record is one of the model
abbrev pub Listed : Record (List ℕ) ℕ → Model → Type 0
Listed r [] = ⊥
Listed r (x ∷ xs) = (r ≡ x) ⊎ Listed r xs

pub before_listed : (k : List ℕ) (r : Record (List ℕ) ℕ) (xs : Model) → before colex k xs ≡ true → Listed r xs → colex k r.key ≡ Less
before_listed k r [] b l = absurd l
before_listed k r (x ∷ xs) b (inl e) = ap (λ y. colex k y.key) e ∙ is_less _ (and_parts _ _ b).0
before_listed k r (x ∷ xs) b (inr l) = before_listed k r xs (and_parts _ _ b).1 l

pub listed_lookup : (r : Record (List ℕ) ℕ) (M : Model) → Sorted M → Listed r M → lookup colex r.key M ≡ Some r.value
listed_lookup r [] u l = absurd l
listed_lookup r (x ∷ xs) u (inl e) =
    ap (λ y. lookup colex y.key (x ∷ xs)) e
    ∙ ap (λ o. by o (lookup colex x.key xs) (Some x.value) None) (self_same colex colex_lawful x.key)
    ∙ sym (ap (λ y. Some y.value) e)
listed_lookup r (x ∷ xs) u (inr l) =
    ap (λ o. by o (lookup colex r.key xs) (Some x.value) None) (before_listed x.key r xs (and_parts _ _ u).0 l)
    ∙ listed_lookup r xs (and_parts _ _ u).1 l

pub lookup_listed : (q : List ℕ) (m : ℕ) (M : Model) → lookup colex q M ≡ Some m → Listed (record { key = q; value = m }) M
lookup_listed q m [] h = let z : ◌≡◌ {A = ℕ} 0 1 = cc in absurd (omega arith)
lookup_listed q m (x ∷ xs) h = go (lookup_listed q m xs) (colex x.key q) refl
  where
    go : (lookup colex q xs ≡ Some m → Listed (record { key = q; value = m }) xs) → (o : Ordering) → colex x.key q ≡ o → Listed (record { key = q; value = m }) (x ∷ xs)
    go more Less e = inr (more (sym (ap (λ o. by o (lookup colex q xs) (Some x.value) None) e) ∙ h))
    go more Equal e =
        let k : x.key ≡ q = colex_exact x.key q e in
        let w : Some x.value ≡ Some m = sym (ap (λ o. by o (lookup colex q xs) (Some x.value) None) e) ∙ h in
        let v : x.value ≡ m = cc in
        inl (sym (ap (λ y. record { key = y; value = x.value }) k ∙ ap (λ y. record { key = q; value = y }) v))
    go more Greater e =
        let w : None ≡ Some m = sym (ap (λ o. by o (lookup colex q xs) (Some x.value) None) e) ∙ h in
        let z : ◌≡◌ {A = ℕ} 0 1 = cc in
        absurd (omega arith)

held_some : (o : Option ℕ) → 0 < unwrap_or o 0 → o ≡ Some (unwrap_or o 0)
held_some None h = absurd (omega arith)
held_some (Some m) h = refl

pub held_listed : (s : List ℕ) (M : Model) → 0 < mask M s → Listed (record { key = s; value = mask M s }) M
held_listed s M h = lookup_listed s (mask M s) M (held_some (lookup colex s M) h)

pub listed_mask : (r : Record (List ℕ) ℕ) (M : Model) → Sorted M → Listed r M → mask M r.key ≡ r.value
listed_mask r M u l = ap (λ o. unwrap_or o 0) (listed_lookup r M u l)

-- records go to their images one after another
module _ (u v : ℕ) where
  image_one_bit : (p : ℕ) (N : Model) (r : Record (List ℕ) ℕ) (t : List ℕ) → Sorted N →
      bit p (mask (image_one u v N r) t) ≡ (bit p (mask N t) || (is_eq (colex t (image u v r.key)) && bit p r.value))
  image_one_bit p N r t s = ap (bit p) (mask_write N (image u v r.key) t (bit_or (mask N (image u v r.key)) r.value) s) ∙ go (colex t (image u v r.key)) refl
    where
      unchanged : (b : Bool) → b ≡ (b || false)
      unchanged true = refl
      unchanged false = refl

      go : (o : Ordering) → colex t (image u v r.key) ≡ o →
          bit p (by o (mask N t) (bit_or (mask N (image u v r.key)) r.value) (mask N t)) ≡ (bit p (mask N t) || (is_eq o && bit p r.value))
      go Less e = unchanged (bit p (mask N t))
      go Equal e = bit_of_or p (mask N (image u v r.key)) r.value ∙ ap (λ q. bit p (mask N q) || bit p r.value) (sym (colex_exact t (image u v r.key) e))
      go Greater e = unchanged (bit p (mask N t))

  image_one_keeps_order : (N : Model) (r : Record (List ℕ) ℕ) → Sorted N → Sorted (image_one u v N r)
  image_one_keeps_order N r s = write_keeps_order N (image u v r.key) _ s

  images_keep_order : (rs : Model) (N : Model) → Sorted N → Sorted (fold (image_one u v) N rs)
  images_keep_order [] N s = s
  images_keep_order (r ∷ rs) N s = images_keep_order rs (image_one u v N r) (image_one_keeps_order N r s)

  stays : (p : ℕ) (rs : Model) (N : Model) (t : List ℕ) → Sorted N → In p N t → In p (fold (image_one u v) N rs) t
  stays p [] N t s i = i
  stays p (r ∷ rs) N t s i = stays p rs (image_one u v N r) t (image_one_keeps_order N r s) (image_one_bit p N r t s ∙ or_left _ _ i)

  arrives : (p : ℕ) (rs : Model) (N : Model) (r : Record (List ℕ) ℕ) → Sorted N → Listed r rs → bit p r.value ≡ true → In p (fold (image_one u v) N rs) (image u v r.key)
  arrives p [] N r s l b = absurd l
  arrives p (x ∷ rs) N r s (inl e) b =
      let t = image u v x.key in
      let c : bit p x.value ≡ true = sym (ap (λ y. bit p y.value) e) ∙ b in
      let there : In p (image_one u v N x) t = image_one_bit p N x t s ∙ or_right _ _ (ap (λ a. a && bit p x.value) (same_as_itself t) ∙ c) in
      ap (λ y. bit p (mask (fold (image_one u v) N (x ∷ rs)) (image u v y.key))) e ∙ stays p rs (image_one u v N x) t (image_one_keeps_order N x s) there
  arrives p (x ∷ rs) N r s (inr l) b = arrives p rs (image_one u v N x) r (image_one_keeps_order N x s) l b

  came : (p : ℕ) (rs : Model) (N : Model) (t : List ℕ) → Sorted N → In p (fold (image_one u v) N rs) t →
      In p N t ⊎ ((r : Record (List ℕ) ℕ) × Listed r rs × (bit p r.value ≡ true) × (image u v r.key ≡ t))
  came p [] N t s i = inl i
  came p (x ∷ rs) N t s i = go (came p rs (image_one u v N x) t (image_one_keeps_order N x s) i)
    where
      Source : Model → Type 0
      Source rows = (r : Record (List ℕ) ℕ) × Listed r rows × (bit p r.value ≡ true) × (image u v r.key ≡ t)

      here : (bit p (mask N t) ≡ true) ⊎ ((is_eq (colex t (image u v x.key)) && bit p x.value) ≡ true) → In p N t ⊎ Source (x ∷ rs)
      here (inl h) = inl h
      here (inr h) = inr (x, inl refl, (and_parts _ _ h).1, sym (same_simplex t (image u v x.key) (and_parts _ _ h).0))

      go : In p (image_one u v N x) t ⊎ Source rs → In p N t ⊎ Source (x ∷ rs)
      go (inl j) = here (or_cases _ _ (sym (image_one_bit p N x t s) ∙ j))
      go (inr (r, l, b, e)) = inr (r, inr l, b, e)

pub image_rule : ImageRule
image_rule u v M s = record { sorted = images_keep_order u v M [] refl; comes = comes; goes = goes }
  where
    comes : (p : ℕ) (t : List ℕ) → In p (collapse u v M) t → (q : List ℕ) × In p M q × (image u v q ≡ t)
    comes p t i = go (came u v p M [] t refl i)
      where
        go : In p [] t ⊎ ((r : Record (List ℕ) ℕ) × Listed r M × (bit p r.value ≡ true) × (image u v r.key ≡ t)) → (q : List ℕ) × In p M q × (image u v q ≡ t)
        go (inl h) = absurd (true≢false (sym h ∙ bit_of_none p))
        go (inr (r, l, b, e)) = (r.key, ap (bit p) (listed_mask r M s l) ∙ b, e)

    goes : (p : ℕ) (q : List ℕ) → In p M q → In p (collapse u v M) (image u v q)
    goes p q i = arrives u v p M [] (record { key = q; value = mask M q }) refl (held_listed q M (bit_holds p (mask M q) i)) i

-- models in order that have the same masks are equal
pub same_masks : (M N : Model) → Sorted M → Sorted N → Positive M → Positive N → ((q : List ℕ) → mask M q ≡ mask N q) → M ≡ N
same_masks M N s t pos qos h = same_lookups colex colex_lawful colex_exact M N s t (λ q. go (lookup colex q M) (lookup colex q N) (pos q) (qos q) (h q))
  where
    go : (a b : Option ℕ) → (a ≡ Some 0 → ⊥) → (b ≡ Some 0 → ⊥) → unwrap_or a 0 ≡ unwrap_or b 0 → a ≡ b
    go None None x y e = refl
    go None (Some m) x y e = absurd (y (ap Some (sym e)))
    go (Some m) None x y e = absurd (x (ap Some e))
    go (Some m) (Some n) x y e = ap Some e

pub write_keeps_positive : (M : Model) (s : List ℕ) (m : ℕ) → Sorted M → Positive M → Positive (write M s m)
write_keeps_positive M s m u pos q h = go (colex q s) (sym (lookup_put colex colex_lawful colex_exact M s q (present m) u) ∙ h)
  where
    never : (m : ℕ) → present m ≡ Some 0 → ⊥
    never zero e = let z : ◌≡◌ {A = ℕ} 0 1 = cc in omega arith
    never (suc m) e =
        let z : Some (suc m) ≡ Some 0 = sym (ap (λ b. cond b None (Some (suc m))) (ne_eqb (suc m) 0 (omega arith))) ∙ e in
        let y : suc m ≡ 0 = cc in
        omega arith

    go : (o : Ordering) → by o (lookup colex q M) (present m) (lookup colex q M) ≡ Some 0 → ⊥
    go Less e = pos q e
    go Equal e = never m e
    go Greater e = pos q e

pub collapse_positive : (u v : ℕ) (M : Model) → Positive (collapse u v M)
collapse_positive u v M = go M [] refl (λ q h. let z : ◌≡◌ {A = ℕ} 0 1 = cc in omega arith)
  where
    go : (rs N : Model) → Sorted N → Positive N → Positive (fold (image_one u v) N rs)
    go [] N s pos = pos
    go (r ∷ rs) N s pos =
        go rs (image_one u v N r) (image_one_keeps_order u v N r s)
        (write_keeps_positive N (image u v r.key) _ s pos)

same_truth : (a b : Bool) → (a ≡ true → b ≡ true) → (b ≡ true → a ≡ true) → a ≡ b
same_truth true b f g = sym (f refl)
same_truth false true f g = g refl
same_truth false false f g = refl

pub image_unique : ImageUnique
image_unique u v M N L pos qos a b =
    same_masks N L a.sorted b.sorted pos qos
    (λ q. all_bits (mask N q) (mask L q) (λ p. same_truth (bit p (mask N q)) (bit p (mask L q)) (over N L a b p q) (over L N b a p q)))
  where
    over : (N L : Model) → Collapsed u v M N → Collapsed u v M L → (p : ℕ) (q : List ℕ) → In p N q → In p L q
    over N L a b p q i = let s = a.comes p q i in ap (λ t. bit p (mask L t)) (sym s.2) ∙ b.goes p s.0 s.1

-- the masks of a model that follows the image rule
module _ (u v : ℕ) (n : u ≡ v → ⊥) (M : Model) (shaped : Shaped M) (legal : Legal M) where
  rising_in : (p : ℕ) (s : List ℕ) → In p M s → Rising s
  rising_in p s i = (shaped s (bit_holds p (mask M s) i)).0

  -- the bits of a simplex with u and without v come from two simplexes
  merged_both : (p : ℕ) (t : List ℕ) → has v t ≡ false → has u t ≡ true → bit p (merged u v M t) ≡ (bit p (mask M t) || bit p (mask M (plus v (less u t))))
  merged_both p t x y = rw (x, y) (bit_of_or p (mask M t) (mask M (plus v (less u t))))

  merged_from : (p : ℕ) (t : List ℕ) → Rising t → bit p (merged u v M t) ≡ true → (s : List ℕ) × In p M s × (image u v s ≡ t)
  merged_from p t r i = go (cases_Bool (has v t)) (cases_Bool (has u t))
    where
      one_of : has v t ≡ false → has u t ≡ true → In p M t ⊎ In p M (plus v (less u t)) → (s : List ℕ) × In p M s × (image u v s ≡ t)
      one_of x y (inl h) = (t, h, image_none u v t x)
      one_of x y (inr h) = (plus v (less u t), h, swapped u v t n r y x)

      go : (has v t ≡ true) ⊎ (has v t ≡ false) → (has u t ≡ true) ⊎ (has u t ≡ false) → (s : List ℕ) × In p M s × (image u v s ≡ t)
      go (inl x) y = absurd (true≢false (sym (rw x at i) ∙ bit_of_none p))
      go (inr x) (inl y) = one_of x y (or_cases _ _ (sym (merged_both p t x y) ∙ i))
      go (inr x) (inr y) = (t, rw (x, y) at i, image_none u v t x)

  merged_into : (p : ℕ) (s : List ℕ) → In p M s → bit p (merged u v M (image u v s)) ≡ true
  merged_into p s i = go (cases_Bool (has v s)) (cases_Bool (has u s))
    where
      r : Rising s
      r = rising_in p s i

      t : List ℕ
      t = plus u (less v s)

      into : has v s ≡ true → (bit p (mask M t) || bit p (mask M (plus v (less u t)))) ≡ true → bit p (merged u v M (image u v s)) ≡ true
      into x h = rw x (merged_both p t (replaced_lacks_v u v s n r) (replaced_has_u u v s) ∙ h)

      go : (has v s ≡ true) ⊎ (has v s ≡ false) → (has u s ≡ true) ⊎ (has u s ≡ false) → bit p (merged u v M (image u v s)) ≡ true
      go (inl x) (inl y) = into x (or_left _ _ (legal.closed p s t i (replaced_face u v s r y)))
      go (inl x) (inr y) = into x (or_right _ _ (ap (λ q. bit p (mask M q)) (swapped_back u v s r x y) ∙ i))
      go (inr x) (inl y) = ap (λ q. bit p (merged u v M q)) (image_none u v s x) ∙ merged_both p s x y ∙ or_left _ _ i
      go (inr x) (inr y) = ap (λ q. bit p (merged u v M q)) (image_none u v s x) ∙ rw (x, y) i

  pub collapsed_masks : (N : Model) → Collapsed u v M N → Merged u v M N
  collapsed_masks N done = record {
    rising = λ t r. all_bits (mask N t) (merged u v M t) (λ p. same_truth (bit p (mask N t)) (bit p (merged u v M t)) (from p t) (back p t r));
    other = λ t k. all_bits (mask N t) 0 (λ p. same_truth (bit p (mask N t)) (bit p 0) (λ i. absurd (k (lists_rise p t i))) (λ i. absurd (true≢false (sym i ∙ bit_of_none p))));
  }
    where
      lists_rise : (p : ℕ) (t : List ℕ) → In p N t → Rising t
      lists_rise p t i = let s = done.comes p t i in rw (← s.2) (image_rising u v s.0 (rising_in p s.0 s.1))

      from : (p : ℕ) (t : List ℕ) → In p N t → bit p (merged u v M t) ≡ true
      from p t i = let s = done.comes p t i in ap (λ q. bit p (merged u v M q)) (sym s.2) ∙ merged_into p s.0 s.1

      back : (p : ℕ) (t : List ℕ) → Rising t → bit p (merged u v M t) ≡ true → In p N t
      back p t r i = let s = merged_from p t r i in ap (λ q. bit p (mask N q)) (sym s.2) ∙ done.goes p s.0 s.1

pub image_masks : ImageMasks
image_masks u v M n s shaped legal = collapsed_masks u v n M shaped legal (collapse u v M) (image_rule u v M s)
