-- Merging a vertex into another, one simplex at a time: each step leaves what the merger comes to as it was, until no simplex with the vertex is left.
use Rattle.std.proofs.Common.{◌≡◌, ℕ, zero, suc, ◌+◌, ◌*◌, ◌<◌, ◌≤◌, Bool, true, false, cond, ltb, leb, ◌⊎◌, List, [], ◌∷◌, length, is_some, Some, None, Option, Ordering, Less, Equal, Greater, unwrap_or, sym, refl, ap, ◌∙◌, subst, ap₂, inl, inr, add-mul, arith}
use lib.Bits.{bit_or, or_add_and, and_le_l, or_zero_r}
use Rattle.std.proofs.lemmas.Bool.{and_parts, cases_Bool, cond-true, cond-false, le-leb, true≢false}
use Rattle.std.proofs.lemmas.Bool.Decides.{nat_tests}
use Rattle.order.specs.Assoc.{by, lookup, later, first, next, total, weigh}
use Rattle.order.proofs.Laters.{later_shorter, later_found}
use Rattle.order.proofs.Maps.{total_put, length_is_total}
use Rattle.complex.specs.Model.{Model, mask, present, write, Sorted, Legal}
use Rattle.complex.specs.Simplex.{colex, below, has, plus, less, Rising}
use Rattle.complex.proofs.Order.{colex_lawful, colex_exact}
use Rattle.complex.proofs.Told.{writes_change_one}
use Rattle.complex.proofs.Writes.{write_keeps_order}
use Rattle.collapse.specs.Image.{collapse}
use Rattle.collapse.specs.Laws.{merged, Merged}
use Rattle.collapse.proofs.Images.{image_masks, image_rule, same_masks, collapse_positive}
use Rattle.collapse.proofs.Legals.{length_image}
use Rattle.collapse.proofs.Vertices.{alike, rising_told, swapped, swapped_back, replaced_has_u, replaced_lacks_v}
use Rattle.simplex.specs.Simplexes.{vertices, found, fitted}
use Rattle.simplex.specs.declared.simplex.Simplex.{Simplex}
use Rattle.store.specs.Contents.{Contents, holding, Stored}
use Rattle.store.specs.Puts.{put_next}
use Rattle.store.proofs.Walks.{walk_shorter, walk_ends}
use Rattle.model.specs.Merges.{join, merge_one}
use Rattle.model.proofs.Changes.{put_accepted}
use Rattle.history.proofs.Fitted.{fits_shaped, fits_ranged, fits_positive}

-- the vertices stay in range
below_less : (n v : ℕ) (s : List ℕ) → below n s ≡ true → below n (less v s) ≡ true
below_less n v [] h = refl
below_less n v (x ∷ s) h = let i = below_less n v s (and_parts (ltb x n) (below n s) h).1 in grind arith

below_plus : (n u : ℕ) (s : List ℕ) → below n (u ∷ []) ≡ true → below n s ≡ true → below n (plus u s) ≡ true
below_plus n u [] l h = l
below_plus n u (x ∷ s) l h = let i = below_plus n u s l (and_parts (ltb x n) (below n s) h).1 in grind (arith, nat_tests)

-- a sum over the simplexes, of which one is taken out
module _ (w : List ℕ → ℕ) (M : Model) (sorted : Sorted M) where
  weighed : (o : Option ℕ) (s : List ℕ) → 0 < unwrap_or o 0 → weigh (λ t _. w t) s o ≡ w s
  weighed None s h = absurd (omega arith)
  weighed (Some m) s h = refl

  taken_out : (t : List ℕ) → 0 < mask M t → total (λ s _. w s) (write M t 0) + w t ≡ total (λ s _. w s) M
  taken_out t h = omega (arith, total_put colex colex_lawful colex_exact (λ s _. w s) M t None sorted, weighed (lookup colex t M) t h)

fewer_held : (M : Model) (t : List ℕ) → Sorted M → 0 < mask M t → length (write M t 0) < length M
fewer_held M t sorted h = omega (arith, taken_out (λ _. 1) M sorted t h, length_is_total M, length_is_total (write M t 0))

-- where a simplex was taken out there is room for another
joins : (c : Contents) (u v : ℕ) (t : List ℕ) → Stored c → below c.range (u ∷ []) ≡ true → 0 < mask c.model t →
    put_next (holding c (write c.model t 0)) (plus u (less v t)) (bit_or (mask (write c.model t 0) (plus u (less v t))) (mask c.model t))
    ≡ holding c (join (write c.model t 0) (plus u (less v t)) (mask c.model t))
joins c u v t st low h =
    let N = write c.model t 0 in
    let f = plus u (less v t) in
    put_accepted (holding c N) f (bit_or (mask N f) (mask c.model t))
    (omega (arith, or_add_and (mask N f) (mask c.model t), and_le_l (mask N f) (mask c.model t)))
    (below_plus c.range u (less v t) low (below_less c.range v t (fits_ranged c.range c.model st.fit t h)))
    (λ _. omega (arith, fewer_held c.model t st.sorted h, st.room))

-- one simplex is taken out, its mask kept, and its bits put where they belong
pub merges_one : (c d e : Contents) (u v : ℕ) (t f : List ℕ) (m k : ℕ) → Stored c → below c.range (u ∷ []) ≡ true → 0 < mask c.model t → has u t ≡ false →
    d ≡ put_next c t 0 → f ≡ plus u (less v t) → m ≡ mask c.model t → k ≡ mask d.model f → e ≡ put_next d f (bit_or k m) → e ≡ holding c (merge_one u v c.model t)
merges_one c d e u v t f m k st low h lacks out moved old there put =
    put
    ∙ ap (λ n. put_next d f (bit_or n m)) there
    ∙ ap (λ x. put_next x f (bit_or (mask x.model f) m)) out
    ∙ ap₂ (λ q n. put_next (holding c (write c.model t 0)) q (bit_or (mask (write c.model t 0) q) n)) moved old
    ∙ joins c u v t st low h
    ∙ ap (holding c) (sym (cond-false (has u t) _ _ lacks))

-- what is made by adding a vertex has the vertices that it should
pub fitted_is : (s : List ℕ) (o : Option Simplex) (r : Simplex) → found o ≡ fitted s → o ≡ Some r → vertices r ≡ s
fitted_is s o r h e = go (leb (length s) 4) (sym (ap found e) ∙ h)
  where
    go : (b : Bool) → Some (vertices r) ≡ cond b (Some s) None → vertices r ≡ s
    go true i = cc
    go false i = cc

-- u in the place of v makes no simplex larger, so that there is one
pub replaced_is_made : (u v : ℕ) (t rest : List ℕ) (o : Option Simplex) → has v t ≡ true → 0 < length t → length t ≤ 4 → rest ≡ less v t → found o ≡ fitted (plus u rest) → is_some o ≡ true
replaced_is_made u v t rest o x some few without with_u = go o (with_u ∙ ap (λ s. fitted (plus u s)) without)
  where
    size : length (plus u (less v t)) ≤ 4
    size = let i : length (plus u (less v t)) ≤ length t = rw x at (length_image u v t some).1 in omega arith

    go : (o : Option Simplex) → found o ≡ fitted (plus u (less v t)) → is_some o ≡ true
    go (Some s) h = refl
    go None h =
        let made : None ≡ Some (plus u (less v t)) = h ∙ cond-true (leb (length (plus u (less v t))) 4) _ _ (le-leb (length (plus u (less v t))) 4 size) in
        let z : ◌≡◌ {A = ℕ} 0 1 = cc in
        absurd (omega arith)

-- the masks after one simplex is merged
module _ (u v : ℕ) (n : u ≡ v → ⊥) (M : Model) (sorted : Sorted M) (t : List ℕ) (r : Rising t) (x : has v t ≡ true) where
  replaced_is_other : plus u (less v t) ≡ t → ⊥
  replaced_is_other e = true≢false (sym x ∙ sym (ap (has v) e) ∙ replaced_lacks_v u v t n r)

  one_elsewhere : (q : List ℕ) → (q ≡ t → ⊥) → (q ≡ plus u (less v t) → ⊥) → mask (merge_one u v M t) q ≡ mask M q
  one_elsewhere q a b = go (has u t)
    where
      out : mask (write M t 0) q ≡ mask M q
      out = writes_change_one.elsewhere M t q 0 sorted a

      go : (k : Bool) → mask (cond k (write M t 0) (join (write M t 0) (plus u (less v t)) (mask M t))) q ≡ mask M q
      go true = out
      go false = writes_change_one.elsewhere (write M t 0) (plus u (less v t)) q _ (write_keeps_order M t 0 sorted) b ∙ out

  one_gone : mask (merge_one u v M t) t ≡ 0
  one_gone = go (has u t)
    where
      out : mask (write M t 0) t ≡ 0
      out = writes_change_one.there M t 0 sorted

      go : (k : Bool) → mask (cond k (write M t 0) (join (write M t 0) (plus u (less v t)) (mask M t))) t ≡ 0
      go true = out
      go false = writes_change_one.elsewhere (write M t 0) (plus u (less v t)) t _ (write_keeps_order M t 0 sorted) (λ e. replaced_is_other (sym e)) ∙ out

  one_joined : mask (merge_one u v M t) (plus u (less v t)) ≡ cond (has u t) (mask M (plus u (less v t))) (bit_or (mask M (plus u (less v t))) (mask M t))
  one_joined = go (has u t)
    where
      f : List ℕ
      f = plus u (less v t)

      out : mask (write M t 0) f ≡ mask M f
      out = writes_change_one.elsewhere M t f 0 sorted replaced_is_other

      go : (k : Bool) → mask (cond k (write M t 0) (join (write M t 0) f (mask M t))) f ≡ cond k (mask M f) (bit_or (mask M f) (mask M t))
      go true = out
      go false = writes_change_one.there (write M t 0) f _ (write_keeps_order M t 0 sorted) ∙ ap (λ m. bit_or m (mask M t)) out

  -- what had v and is held now was held, and is not the one taken out
  was_held : (q : List ℕ) → has v q ≡ true → 0 < mask (merge_one u v M t) q → (0 < mask M q) × (q ≡ t → ⊥)
  was_held q y h = (rw (one_elsewhere q other apart) at h, other)
    where
      other : q ≡ t → ⊥
      other e = let z : mask (merge_one u v M t) q ≡ 0 = ap (mask (merge_one u v M t)) e ∙ one_gone in omega arith

      apart : q ≡ plus u (less v t) → ⊥
      apart e = true≢false (sym y ∙ ap (has v) e ∙ replaced_lacks_v u v t n r)

  -- what the merger comes to is the same
  merged_kept : (q : List ℕ) → Rising q → merged u v (merge_one u v M t) q ≡ merged u v M q
  merged_kept q s = go (cases_Bool (has v q)) (cases_Bool (has u q))
    where
      N : Model
      N = merge_one u v M t

      f : List ℕ
      f = plus u (less v t)

      back : List ℕ
      back = plus v (less u q)

      other : has v q ≡ false → q ≡ t → ⊥
      other y e = true≢false (sym x ∙ sym (ap (has v) e) ∙ y)

      back_apart : back ≡ f → ⊥
      back_apart e = true≢false (sym (replaced_has_u v u q) ∙ ap (has v) e ∙ replaced_lacks_v u v t n r)

      lacks_u : has u back ≡ false
      lacks_u = replaced_lacks_v v u q (λ e. n (sym e)) s

      -- the list itself is the one that got the bits
      here : q ≡ f → (has u t ≡ true) ⊎ (has u t ≡ false) → bit_or (mask N q) (mask N back) ≡ bit_or (mask M q) (mask M back)
      here e (inl k) =
          ap₂ bit_or
          (ap (mask N) e ∙ one_joined ∙ ap (λ b. cond b (mask M f) (bit_or (mask M f) (mask M t))) k ∙ ap (mask M) (sym e))
          (one_elsewhere back (λ i. true≢false (sym k ∙ sym (ap (has u) i) ∙ lacks_u)) back_apart)
      here e (inr k) =
          let w : back ≡ t = ap (λ p. plus v (less u p)) e ∙ swapped_back u v t r x k in
          ap₂ bit_or
          (ap (mask N) e ∙ one_joined ∙ ap (λ b. cond b (mask M f) (bit_or (mask M f) (mask M t))) k)
          (ap (mask N) w ∙ one_gone)
          ∙ or_zero_r (bit_or (mask M f) (mask M t))
          ∙ ap₂ (λ a b. bit_or (mask M a) (mask M b)) (sym e) (sym w)

      both : has v q ≡ false → has u q ≡ true → (q ≡ f) ⊎ (q ≡ f → ⊥) → bit_or (mask N q) (mask N back) ≡ bit_or (mask M q) (mask M back)
      both y k (inl e) = here e (cases_Bool (has u t))
      both y k (inr a) =
          ap₂ bit_or (one_elsewhere q (other y) a)
          (one_elsewhere back (λ e. a (sym (swapped u v q n s k y) ∙ ap (λ p. cond (has v p) (plus u (less v p)) p) e ∙ ap (λ b. cond b f t) x)) back_apart)

      go : (has v q ≡ true) ⊎ (has v q ≡ false) → (has u q ≡ true) ⊎ (has u q ≡ false) → merged u v N q ≡ merged u v M q
      go (inl y) k = rw y
      go (inr y) (inl k) = rw (y, k) (both y k (alike q f))
      go (inr y) (inr k) = rw (y, k) (one_elsewhere q (other y) (λ e. true≢false (sym (replaced_has_u u v t) ∙ sym (ap (has u) e) ∙ k)))

-- what is later than a is found among those later
lookup_later : (a q : List ℕ) (M : Model) → colex a q ≡ Less → lookup colex q (later colex a M) ≡ lookup colex q M
lookup_later a q [] h = refl
lookup_later a q (r ∷ rs) h = go (lookup_later a q rs h) (colex r.key a) refl
  where
    passed : colex r.key q ≡ Less → lookup colex q (r ∷ rs) ≡ lookup colex q rs
    passed e = ap (λ o. by o (lookup colex q rs) (Some r.value) None) e

    go : lookup colex q (later colex a rs) ≡ lookup colex q rs → (o : Ordering) → colex r.key a ≡ o → lookup colex q (by o (later colex a rs) rs (r ∷ rs)) ≡ lookup colex q (r ∷ rs)
    go more Less e = more ∙ sym (passed (colex_lawful.trans r.key a q e h))
    go more Equal e = sym (passed (colex_lawful.congr r.key a q e ∙ h))
    go more Greater e = refl

-- a held simplex that is later is the next one, or later than that
module _ (a q : List ℕ) (M : Model) (h : colex a q ≡ Less) (held : 0 < mask M q) where
  held_later : 0 < mask (later colex a M) q
  held_later = rw (lookup_later a q M h) held

  some_next : None ≡ next colex a M → ⊥
  some_next e = let z : mask (later colex a M) q ≡ 0 = ap (λ L. mask L q) (walk_ends M a e) in omega (arith, held_later)

  next_or_later : (t : List ℕ) → Some t ≡ next colex a M → (q ≡ t → ⊥) → colex t q ≡ Less
  next_or_later t e other = go (later colex a M) held_later e
    where
      first_of : (k : List ℕ) → k ≡ t → (o : Ordering) → colex k q ≡ o → (o ≡ Greater → ⊥) → colex t q ≡ Less
      first_of k i Less j g = ap (λ p. colex p q) (sym i) ∙ j
      first_of k i Equal j g = absurd (other (sym (colex_exact k q j) ∙ i))
      first_of k i Greater j g = absurd (g refl)

      go : (L : Model) → 0 < mask L q → Some t ≡ first L → colex t q ≡ Less
      go [] l i = absurd (omega arith)
      go (r ∷ rs) l i =
          first_of r.key (cc) (colex r.key q) refl
          (λ g. let z : mask (r ∷ rs) q ≡ 0 = ap (λ o. unwrap_or (by o (lookup colex q rs) (Some r.value) None) 0) g in omega arith)

-- what is found is held
pub next_held : (c : Contents) (at t : List ℕ) → Stored c → Some t ≡ next colex at c.model → 0 < mask c.model t
next_held c at t st found = go (later colex at c.model) refl found
  where
    some : (m : ℕ) → (m ≡ 0 → ⊥) → 0 < m
    some zero f = absurd (f refl)
    some (suc m) f = omega arith

    go : (L : Model) → later colex at c.model ≡ L → Some t ≡ first L → 0 < mask c.model t
    go [] e i = let z : ◌≡◌ {A = ℕ} 0 1 = cc in absurd (omega arith)
    go (r ∷ rs) e i =
        let k : t ≡ r.key = cc in
        let there : lookup colex t c.model ≡ Some r.value = ap (λ q. lookup colex q c.model) k ∙ later_found colex colex_lawful c.model at r rs st.sorted e in
        rw there (some r.value (λ z. fits_positive c.range c.model st.fit t (there ∙ ap Some z)))

-- the walk has come to `at`: N still comes to the merger of M, and its simplexes with v are all later
pub record Underway (u v : ℕ) (M N : Model) (at : List ℕ) : Type 0 where
  pub masks : (q : List ℕ) → Rising q → merged u v N q ≡ merged u v M q
  pub ahead : (q : List ℕ) → has v q ≡ true → 0 < mask N q → colex at q ≡ Less

-- the walk goes on from `at` to t
module _ (u v : ℕ) (M N : Model) (at t : List ℕ) (under : Underway u v M N at) (found : Some t ≡ next colex at N) where
  pub passes : has v t ≡ false → Underway u v M N t
  passes x = record {
    masks = under.masks;
    ahead = λ q y h. next_or_later at q N (under.ahead q y h) h t found (λ e. true≢false (sym y ∙ ap (has v) e ∙ x));
  }

  merges : (u ≡ v → ⊥) → Sorted N → Rising t → has v t ≡ true → Underway u v M (merge_one u v N t) t
  merges n sorted r x = record {
    masks = λ q s. merged_kept u v n N sorted t r x q s ∙ under.masks q s;
    ahead = λ q y h. let w = was_held u v n N sorted t r x q y h in next_or_later at q N (under.ahead q y w.0) w.0 t found w.1;
  }

pub merged_on : (c d e : Contents) (u v : ℕ) (at t : List ℕ) → (u ≡ v → ⊥) → Stored d → Rising t → has v t ≡ true → Some t ≡ next colex at d.model →
    d ≡ holding c d.model → Underway u v c.model d.model at → e ≡ holding d (merge_one u v d.model t) → (e ≡ holding c e.model) × Underway u v c.model e.model t
merged_on c d e u v at t n st r x found kept under put = (
  put ∙ ap (λ k. holding k (merge_one u v d.model t)) kept ∙ sym (ap (λ k. holding c k.model) put),
  subst (λ (N : Model). Underway u v c.model N t) (sym (ap (λ k. k.model) put)) (merges u v c.model d.model at t under found n st.sorted r x),
)

-- where nothing is later, the merger is done
pub done : (c d : Contents) (u v : ℕ) (at : List ℕ) → (u ≡ v → ⊥) → Legal c.model → Stored c → Stored d → Underway u v c.model d.model at → None ≡ next colex at d.model → d.model ≡ collapse u v c.model
done c d u v at apart legal st then under none =
    same_masks N (collapse u v M) then.sorted (image_rule u v M st.sorted).sorted (fits_positive d.range N then.fit) (collapse_positive u v M) (λ q. at_each q (rising_told q))
  where
    M : Model
    M = c.model

    N : Model
    N = d.model

    new : Merged u v M (collapse u v M)
    new = image_masks u v M apart st.sorted (fits_shaped c.range M st.fit) legal

    absent : (m : ℕ) → (0 < m → ⊥) → m ≡ 0
    absent zero f = refl
    absent (suc m) f = absurd (f (omega arith))

    gone : (q : List ℕ) → has v q ≡ true → mask N q ≡ 0
    gone q y = absent (mask N q) (λ h. some_next at q N (under.ahead q y h) h none)

    settled : (q : List ℕ) → (has v q ≡ true) ⊎ (has v q ≡ false) → (has u q ≡ true) ⊎ (has u q ≡ false) → mask N q ≡ merged u v N q
    settled q (inl y) k = rw y (gone q y)
    settled q (inr y) (inl k) = rw (y, k) (sym (ap (bit_or (mask N q)) (gone (plus v (less u q)) (replaced_has_u v u q)) ∙ or_zero_r (mask N q)))
    settled q (inr y) (inr k) = rw (y, k)

    at_each : (q : List ℕ) → Rising q ⊎ (Rising q → ⊥) → mask N q ≡ mask (collapse u v M) q
    at_each q (inl r) = settled q (cases_Bool (has v q)) (cases_Bool (has u q)) ∙ under.masks q r ∙ sym (new.rising q r)
    at_each q (inr k) = absent (mask N q) (λ h. k (fits_shaped d.range N then.fit q h).0) ∙ sym (new.other q k)

-- how many simplexes have v
abbrev pub with_vertex : ℕ → Model → ℕ
with_vertex v M = total (λ s _. cond (has v s) 1 0) M

-- what falls at each step of the walk
abbrev pub left_to_do : ℕ → List ℕ → Contents → ℕ
left_to_do v at c = with_vertex v c.model * (c.limit + 1) + length (later colex at c.model)

pub passing_leaves_less : (c : Contents) (v : ℕ) (at t : List ℕ) → Stored c → Some t ≡ next colex at c.model → left_to_do v t c < left_to_do v at c
passing_leaves_less c v at t st found = omega (arith, walk_shorter c.model st.sorted at t found)

-- a simplex without v counts for nothing
none_counted : (v : ℕ) (s : List ℕ) → has v s ≡ false → (o : Option ℕ) → weigh (λ t _. cond (has v t) 1 0) s o ≡ 0
none_counted v s h None = refl
none_counted v s h (Some m) = rw h

one_fewer : (u v : ℕ) (M : Model) (t : List ℕ) → (u ≡ v → ⊥) → Sorted M → Rising t → has v t ≡ true → 0 < mask M t → with_vertex v (merge_one u v M t) + 1 ≡ with_vertex v M
one_fewer u v M t n sorted r x h = go (has u t)
  where
    f : List ℕ
    f = plus u (less v t)

    one : ◌≡◌ {A = ℕ} (cond (has v t) 1 0) 1
    one = rw x

    out : with_vertex v (write M t 0) + 1 ≡ with_vertex v M
    out = omega (arith, taken_out (λ s. cond (has v s) 1 0) M sorted t h, one)

    go : (k : Bool) → with_vertex v (cond k (write M t 0) (join (write M t 0) f (mask M t))) + 1 ≡ with_vertex v M
    go true = out
    go false =
        let N = write M t 0 in
        let m = bit_or (mask N f) (mask M t) in
        let lacks = replaced_lacks_v u v t n r in
        omega (arith, out, total_put colex colex_lawful colex_exact (λ s _. cond (has v s) 1 0) N f (present m) (write_keeps_order M t 0 sorted), none_counted v f lacks (lookup colex f N), none_counted v f lacks (present m))

-- where a simplex with v is merged there is less to do, whatever is then later
pub merging_leaves_less : (c d : Contents) (u v : ℕ) (at t : List ℕ) → (u ≡ v → ⊥) → Stored c → Stored d → Rising t → has v t ≡ true → 0 < mask c.model t → d ≡ holding c (merge_one u v c.model t) → left_to_do v t d < left_to_do v at c
merging_leaves_less c d u v at t n st then r x h e =
    let fewer : with_vertex v d.model + 1 ≡ with_vertex v c.model = ap (λ k. with_vertex v k.model + 1) e ∙ one_fewer u v c.model t n st.sorted r x h in
    let same : d.limit ≡ c.limit = ap (λ k. k.limit) e in
    let short : length (later colex t d.model) ≤ c.limit = omega (arith, later_shorter colex t d.model, then.room) in
    falls (with_vertex v d.model) (with_vertex v c.model) d.limit c.limit (length (later colex t d.model)) (length (later colex at c.model)) fewer same short
  where
    falls : (a b k l i j : ℕ) → a + 1 ≡ b → k ≡ l → i ≤ l → a * (k + 1) + i < b * (l + 1) + j
    falls a b k l i j p q s = rw (← p, q) (omega (arith, add-mul a 1 (l + 1)))
