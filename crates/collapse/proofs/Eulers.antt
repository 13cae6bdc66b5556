-- A collapse is a run of merges at single bases, and each of them keeps the Euler number.
use Rattle.std.proofs.Common.{◌≡◌, ℕ, zero, suc, ◌+◌, ◌<◌, Bool, true, false, cond, not, ◌&&◌, eqb, ◌⊎◌, List, [], ◌∷◌, length, pos, ◌-ℤ◌, Some, None, Option, Ordering, Less, Equal, Greater, unwrap_or, sym, refl, ap, ◌∙◌, inl, inr, arith}
use lib.Bits.{bit_or, or_zero_r}
use Rattle.std.proofs.lemmas.Int.{ints}
use Rattle.std.proofs.lemmas.Bool.{and_from, and_parts, cases_Bool, eqb-true, ne_eqb, true≢false}
use Rattle.order.specs.Assoc.{by, before, lookup, total, weigh}
use Rattle.order.specs.declared.record.Record.{Record}
use Rattle.order.proofs.Maps.{lookup_before, total_put}
use Rattle.order.proofs.Puts.{before_alike, before_all}
use Rattle.order.proofs.Ranks.{self_same}
use Rattle.complex.specs.Mask.{bit}
use Rattle.complex.specs.Model.{Model, mask, present, write, Sorted, Legal, odd, counts_up, counts_down, euler}
use Rattle.complex.specs.Simplex.{colex, has, plus, rises, Rising}
use Rattle.complex.proofs.Faces.{rises_rising}
use Rattle.complex.proofs.Masks.{bit_of_or, bit_of_none}
use Rattle.complex.proofs.Order.{colex_lawful, colex_exact}
use Rattle.complex.proofs.Writes.{mask_write, write_keeps_order}
use Rattle.collapse.specs.Image.{less, collapse}
use Rattle.collapse.specs.Laws.{Positive, Shaped, merged, CollapseKeepsEuler}
use Rattle.collapse.specs.Link.{Base}
use Rattle.collapse.proofs.Images.{Listed, held_listed, lookup_listed, same_masks, image_masks, image_rule}
use Rattle.collapse.proofs.Legals.{link_bits}
use Rattle.collapse.proofs.Vertices.{has_plus, length_plus, less_none, less_rising, plus_rising, alike, rising_rises, rising_told, rest, rest_is_base, by_u, by_v, by_both, with_u_has_u, with_v_has_v, with_v_lacks_u, with_both_has_u, u_is_not_v, u_is_not_both, v_is_not_both, rest_of_u, rest_of_v, rest_of_both}

pub mask_here : (M : Model) (k : List ℕ) (m : ℕ) → Sorted M → mask (write M k m) k ≡ m
mask_here M k m s = mask_write M k k m s ∙ ap (λ o. by o (mask M k) m (mask M k)) (self_same colex colex_lawful k)

pub mask_other : (M : Model) (k q : List ℕ) (m : ℕ) → Sorted M → (q ≡ k → ⊥) → mask (write M k m) q ≡ mask M q
mask_other M k q m s h = mask_write M k q m s ∙ go (colex q k) refl
  where
    go : (o : Ordering) → colex q k ≡ o → by o (mask M q) m (mask M q) ≡ mask M q
    go Less e = refl
    go Equal e = absurd (h (colex_exact q k e))
    go Greater e = refl

-- a sum in which absent simplexes count nothing goes by the masks
module _ (w : List ℕ → ℕ → ℕ) (none : (k : List ℕ) → w k 0 ≡ 0) where
  weigh_value : (k : List ℕ) (o : Option ℕ) → weigh w k o ≡ w k (unwrap_or o 0)
  weigh_value k None = sym (none k)
  weigh_value k (Some m) = refl

  weigh_present : (k : List ℕ) (m : ℕ) → weigh w k (present m) ≡ w k m
  weigh_present k zero = sym (none k)
  weigh_present k (suc m) = ap (λ b. weigh w k (cond b None (Some (suc m)))) (ne_eqb (suc m) 0 (omega arith))

  pub total_write : (M : Model) (k : List ℕ) (m : ℕ) → Sorted M → total w (write M k m) + w k (mask M k) ≡ total w M + w k m
  total_write M k m s = omega (arith, total_put colex colex_lawful colex_exact w M k (present m) s, weigh_value k (lookup colex k M), weigh_present k m)

-- the records whose masks are not 0
abbrev kept : Model → Model
kept [] = []
kept (r ∷ rs) = cond (eqb r.value 0) (kept rs) (r ∷ kept rs)

kept_before : (k : List ℕ) (M : Model) → before colex k M ≡ true → before colex k (kept M) ≡ true
kept_before k [] b = refl
kept_before k (r ∷ rs) b = go (kept_before k rs (and_parts _ _ b).1) (eqb r.value 0)
  where
    go : before colex k (kept rs) ≡ true → (a : Bool) → before colex k (cond a (kept rs) (r ∷ kept rs)) ≡ true
    go more true = more
    go more false = and_from _ _ (and_parts _ _ b).0 more

kept_sorted : (M : Model) → Sorted M → Sorted (kept M)
kept_sorted [] s = refl
kept_sorted (r ∷ rs) s = go (kept_sorted rs (and_parts _ _ s).1) (eqb r.value 0)
  where
    go : Sorted (kept rs) → (a : Bool) → Sorted (cond a (kept rs) (r ∷ kept rs))
    go more true = more
    go more false = and_from _ _ (kept_before r.key rs (and_parts _ _ s).0) more

kept_mask : (M : Model) (q : List ℕ) → Sorted M → mask (kept M) q ≡ mask M q
kept_mask [] q s = refl
kept_mask (r ∷ rs) q s = go (kept_mask rs q (and_parts _ _ s).1) (eqb r.value 0) refl
  where
    gone : r.value ≡ 0 → (o : Ordering) → colex r.key q ≡ o → mask rs q ≡ unwrap_or (by o (lookup colex q rs) (Some r.value) None) 0
    gone z Less e = refl
    gone z Equal e = ap (λ a. unwrap_or a 0) (lookup_before colex colex_lawful q rs (before_alike colex colex_lawful r.key q rs e (and_parts _ _ s).0)) ∙ sym z
    gone z Greater e = ap (λ a. unwrap_or a 0) (lookup_before colex colex_lawful q rs (and_parts _ _ (before_all colex colex_lawful q r rs e s)).1)

    there : mask (kept rs) q ≡ mask rs q → (o : Ordering) → unwrap_or (by o (lookup colex q (kept rs)) (Some r.value) None) 0 ≡ unwrap_or (by o (lookup colex q rs) (Some r.value) None) 0
    there more Less = more
    there more Equal = refl
    there more Greater = refl

    go : mask (kept rs) q ≡ mask rs q → (a : Bool) → eqb r.value 0 ≡ a → mask (cond a (kept rs) (r ∷ kept rs)) q ≡ mask (r ∷ rs) q
    go more true e = more ∙ gone (eqb-true r.value 0 e) (colex r.key q) refl
    go more false e = there more (colex r.key q)

kept_listed : (r : Record (List ℕ) ℕ) (M : Model) → Listed r (kept M) → eqb r.value 0 ≡ false
kept_listed r [] l = absurd l
kept_listed r (x ∷ xs) l = go (kept_listed r xs) (eqb x.value 0) refl l
  where
    go : (Listed r (kept xs) → eqb r.value 0 ≡ false) → (a : Bool) → eqb x.value 0 ≡ a → Listed r (cond a (kept xs) (x ∷ kept xs)) → eqb r.value 0 ≡ false
    go more true e l = more l
    go more false e (inl h) = ap (λ y. eqb y.value 0) h ∙ e
    go more false e (inr l) = more l

kept_positive : (M : Model) → Positive (kept M)
kept_positive M q h = true≢false (kept_listed (record { key = q; value = 0 }) M (lookup_listed q 0 (kept M) h))

kept_total : (w : List ℕ → ℕ → ℕ) → ((k : List ℕ) → w k 0 ≡ 0) → (M : Model) → total w (kept M) ≡ total w M
kept_total w none [] = refl
kept_total w none (r ∷ rs) = go (kept_total w none rs) (eqb r.value 0) refl
  where
    go : total w (kept rs) ≡ total w rs → (a : Bool) → eqb r.value 0 ≡ a → total w (cond a (kept rs) (r ∷ kept rs)) ≡ w r.key r.value + total w rs
    go more true e = let z : w r.key r.value ≡ 0 = ap (w r.key) (eqb-true r.value 0 e) ∙ none r.key in omega arith
    go more false e = omega arith

pub same_masks_same_total : (w : List ℕ → ℕ → ℕ) → ((k : List ℕ) → w k 0 ≡ 0) → (M N : Model) → Sorted M → Sorted N → ((q : List ℕ) → mask M q ≡ mask N q) → total w M ≡ total w N
same_masks_same_total w none M N s t h =
    let same : kept M ≡ kept N = same_masks (kept M) (kept N) (kept_sorted M s) (kept_sorted N t) (kept_positive M) (kept_positive N) (λ q. kept_mask M q s ∙ h q ∙ sym (kept_mask N q t)) in
    sym (kept_total w none M) ∙ ap (total w) same ∙ kept_total w none N

-- three masks written at three simplexes
abbrev pub triple : Model → List ℕ → ℕ → List ℕ → ℕ → List ℕ → ℕ → Model
triple M k a l b n c = write (write (write M k a) l b) n c

module _ (M : Model) (sorted : Sorted M) (k l n : List ℕ) (kl : k ≡ l → ⊥) (kn : k ≡ n → ⊥) (ln : l ≡ n → ⊥) (a b c : ℕ) where
  first : Sorted (write M k a)
  first = write_keeps_order M k a sorted

  second : Sorted (write (write M k a) l b)
  second = write_keeps_order (write M k a) l b first

  triple_sorted : Sorted (triple M k a l b n c)
  triple_sorted = write_keeps_order (write (write M k a) l b) n c second

  triple_third : mask (triple M k a l b n c) n ≡ c
  triple_third = mask_here (write (write M k a) l b) n c second

  triple_second : mask (triple M k a l b n c) l ≡ b
  triple_second = mask_other (write (write M k a) l b) n l c second ln ∙ mask_here (write M k a) l b first

  triple_first : mask (triple M k a l b n c) k ≡ a
  triple_first = mask_other (write (write M k a) l b) n k c second kn ∙ mask_other (write M k a) l k b first kl ∙ mask_here M k a sorted

  triple_other : (q : List ℕ) → (q ≡ k → ⊥) → (q ≡ l → ⊥) → (q ≡ n → ⊥) → mask (triple M k a l b n c) q ≡ mask M q
  triple_other q x y z = mask_other (write (write M k a) l b) n q c second z ∙ mask_other (write M k a) l q b first y ∙ mask_other M k q a sorted x

  triple_total : (w : List ℕ → ℕ → ℕ) → ((k : List ℕ) → w k 0 ≡ 0) →
      total w (triple M k a l b n c) + w k (mask M k) + w l (mask M l) + w n (mask M n) ≡ total w M + w k a + w l b + w n c
  triple_total w none =
      let t1 = total_write w none M k a sorted in
      let t2 = total_write w none (write M k a) l b first in
      let t3 = total_write w none (write (write M k a) l b) n c second in
      let e2 : mask (write M k a) l ≡ mask M l = mask_other M k l a sorted (λ e. kl (sym e)) in
      let e3 : mask (write (write M k a) l b) n ≡ mask M n = mask_other (write M k a) l n b first (λ e. ln (sym e)) ∙ mask_other M k n a sorted (λ e. kn (sym e)) in
      omega (arith, rw e2 at t2, rw e3 at t3)

pub not_held : (m : ℕ) → (0 < m → ⊥) → m ≡ 0
not_held zero h = refl
not_held (suc m) h = absurd (h (omega arith))

-- the three simplexes over a base written anew
abbrev pub over : ℕ → ℕ → Model → List ℕ → ℕ → ℕ → ℕ → Model
over u v M s a b c = triple M (plus u s) a (plus v s) b (plus u (plus v s)) c

module _ (u v : ℕ) (n : u ≡ v → ⊥) (s : List ℕ) (base : Base u v s) (M : Model) (sorted : Sorted M) (a b c : ℕ) where
  pub over_sorted : Sorted (over u v M s a b c)
  over_sorted = triple_sorted M sorted (plus u s) (plus v s) (plus u (plus v s)) (u_is_not_v u v n s base) (u_is_not_both u v n s base) (v_is_not_both u v n s base) a b c

  pub over_u : mask (over u v M s a b c) (plus u s) ≡ a
  over_u = triple_first M sorted (plus u s) (plus v s) (plus u (plus v s)) (u_is_not_v u v n s base) (u_is_not_both u v n s base) (v_is_not_both u v n s base) a b c

  pub over_v : mask (over u v M s a b c) (plus v s) ≡ b
  over_v = triple_second M sorted (plus u s) (plus v s) (plus u (plus v s)) (u_is_not_v u v n s base) (u_is_not_both u v n s base) (v_is_not_both u v n s base) a b c

  pub over_both : mask (over u v M s a b c) (plus u (plus v s)) ≡ c
  over_both = triple_third M sorted (plus u s) (plus v s) (plus u (plus v s)) (u_is_not_v u v n s base) (u_is_not_both u v n s base) (v_is_not_both u v n s base) a b c

  pub over_else : (q : List ℕ) → (q ≡ plus u s → ⊥) → (q ≡ plus v s → ⊥) → (q ≡ plus u (plus v s) → ⊥) → mask (over u v M s a b c) q ≡ mask M q
  over_else = triple_other M sorted (plus u s) (plus v s) (plus u (plus v s)) (u_is_not_v u v n s base) (u_is_not_both u v n s base) (v_is_not_both u v n s base) a b c

  -- what lies over another base stays
  pub over_other : (q : List ℕ) → (rest u v q ≡ s → ⊥) → mask (over u v M s a b c) q ≡ mask M q
  over_other q h = over_else q (λ e. h (ap (rest u v) e ∙ rest_of_u u v n s base)) (λ e. h (ap (rest u v) e ∙ rest_of_v u v n s base)) (λ e. h (ap (rest u v) e ∙ rest_of_both u v n s base))

  -- what has neither vertex stays
  over_neither : (q : List ℕ) → has u q ≡ false → has v q ≡ false → mask (over u v M s a b c) q ≡ mask M q
  over_neither q h k =
      over_else q (λ e. true≢false (sym (with_u_has_u u v n s base) ∙ sym (ap (has u) e) ∙ h))
      (λ e. true≢false (sym (with_v_has_v u v n s base) ∙ sym (ap (has v) e) ∙ k))
      (λ e. true≢false (sym (with_both_has_u u v n s base) ∙ sym (ap (has u) e) ∙ h))

  -- what does not rise stays
  over_falling : (q : List ℕ) → (Rising q → ⊥) → mask (over u v M s a b c) q ≡ mask M q
  over_falling q h =
      over_else q (λ e. h (rw e (plus_rising u s base.rising))) (λ e. h (rw e (plus_rising v s base.rising)))
      (λ e. h (rw e (plus_rising u (plus v s) (plus_rising v s base.rising))))

  pub over_total : (w : List ℕ → ℕ → ℕ) → ((k : List ℕ) → w k 0 ≡ 0) →
      total w (over u v M s a b c) + w (plus u s) (mask M (plus u s)) + w (plus v s) (mask M (plus v s)) + w (plus u (plus v s)) (mask M (plus u (plus v s)))
      ≡ total w M + w (plus u s) a + w (plus v s) b + w (plus u (plus v s)) c
  over_total = triple_total M sorted (plus u s) (plus v s) (plus u (plus v s)) (u_is_not_v u v n s base) (u_is_not_both u v n s base) (v_is_not_both u v n s base) a b c

-- v goes into u at one base
abbrev pub merge : ℕ → ℕ → Model → List ℕ → Model
merge u v M s = over u v M s (bit_or (mask M (plus u s)) (mask M (plus v s))) 0 0

abbrev pub merges : ℕ → ℕ → Model → List (List ℕ) → Model
merges u v M [] = M
merges u v M (s ∷ ss) = merges u v (merge u v M s) ss

abbrev pub Bases : ℕ → ℕ → List (List ℕ) → Type 0
Bases u v [] = Unit {0}
Bases u v (s ∷ ss) = Base u v s × Bases u v ss

abbrev pub Member : List ℕ → List (List ℕ) → Type 0
Member s [] = ⊥
Member s (t ∷ ts) = (s ≡ t) ⊎ Member s ts

-- the link condition of part p at every base, as an equation of bits
abbrev LinkBits : ℕ → ℕ → ℕ → Model → Type 0
LinkBits p u v M = (s : List ℕ) → Base u v s → bit p (mask M (plus u (plus v s))) ≡ (bit p (mask M (plus u s)) && bit p (mask M (plus v s)))

up_none : (p : ℕ) (k : List ℕ) → counts_up p k 0 ≡ 0
up_none p k = ap (λ b. cond (b && odd (length k)) 1 0) (bit_of_none p)

down_none : (p : ℕ) (k : List ℕ) → counts_down p k 0 ≡ 0
down_none p k = ap (λ b. cond (b && not (odd (length k))) 1 0) (bit_of_none p)

euler_from : (a b c d : ℕ) → a + d ≡ c + b → pos a -ℤ pos b ≡ pos c -ℤ pos d
euler_from a b c d h = omega (arith, ints)

module _ (u v : ℕ) (n : u ≡ v → ⊥) where
  merge_sorted : (M : Model) → Sorted M → (s : List ℕ) → Base u v s → Sorted (merge u v M s)
  merge_sorted M sorted s base = over_sorted u v n s base M sorted (bit_or (mask M (plus u s)) (mask M (plus v s))) 0 0

  merge_other : (M : Model) → Sorted M → (s : List ℕ) → Base u v s → (q : List ℕ) → (rest u v q ≡ s → ⊥) → mask (merge u v M s) q ≡ mask M q
  merge_other M sorted s base = over_other u v n s base M sorted (bit_or (mask M (plus u s)) (mask M (plus v s))) 0 0

  merge_u : (M : Model) → Sorted M → (s : List ℕ) → Base u v s → mask (merge u v M s) (plus u s) ≡ bit_or (mask M (plus u s)) (mask M (plus v s))
  merge_u M sorted s base = over_u u v n s base M sorted (bit_or (mask M (plus u s)) (mask M (plus v s))) 0 0

  merge_v : (M : Model) → Sorted M → (s : List ℕ) → Base u v s → mask (merge u v M s) (plus v s) ≡ 0
  merge_v M sorted s base = over_v u v n s base M sorted (bit_or (mask M (plus u s)) (mask M (plus v s))) 0 0

  merge_both : (M : Model) → Sorted M → (s : List ℕ) → Base u v s → mask (merge u v M s) (plus u (plus v s)) ≡ 0
  merge_both M sorted s base = over_both u v n s base M sorted (bit_or (mask M (plus u s)) (mask M (plus v s))) 0 0

  -- a merge keeps the Euler number
  merge_keeps_euler : (p : ℕ) (M : Model) → Sorted M → (s : List ℕ) → Base u v s → LinkBits p u v M → euler p (merge u v M s) ≡ euler p M
  merge_keeps_euler p M sorted s base link =
      let m = bit_or (mask M (plus u s)) (mask M (plus v s)) in
      let here = link s base in
      let tu = over_total u v n s base M sorted m 0 0 (counts_up p) (up_none p) in
      let td = over_total u v n s base M sorted m 0 0 (counts_down p) (down_none p) in
      let lu = length_plus u s base.no_u in
      let lv = length_plus v s base.no_v in
      let lw = length_plus u (plus v s) (with_v_lacks_u u v n s base) in
      let bo = bit_of_or p (mask M (plus u s)) (mask M (plus v s)) in
      let bz = bit_of_none p in
      euler_from (total (counts_up p) (merge u v M s)) (total (counts_down p) (merge u v M s)) (total (counts_up p) M) (total (counts_down p) M) (grind arith)

  -- a merge keeps the link condition
  merge_keeps_link : (p : ℕ) (M : Model) → Sorted M → (s : List ℕ) → Base u v s → LinkBits p u v M → LinkBits p u v (merge u v M s)
  merge_keeps_link p M sorted s base link t b = go (alike s t)
    where
      N : Model
      N = merge u v M s

      none : (b : Bool) → (b && false) ≡ false
      none true = refl
      none false = refl

      at_base : bit p (mask N (plus u (plus v s))) ≡ (bit p (mask N (plus u s)) && bit p (mask N (plus v s)))
      at_base =
          ap (bit p) (merge_both M sorted s base) ∙ bit_of_none p
          ∙ sym (ap (λ x. bit p (mask N (plus u s)) && x) (ap (bit p) (merge_v M sorted s base) ∙ bit_of_none p) ∙ none (bit p (mask N (plus u s))))

      go : (s ≡ t) ⊎ (s ≡ t → ⊥) → bit p (mask N (plus u (plus v t))) ≡ (bit p (mask N (plus u t)) && bit p (mask N (plus v t)))
      go (inl e) = ap (λ x. bit p (mask N (plus u (plus v x)))) (sym e) ∙ at_base ∙ ap (λ x. bit p (mask N (plus u x)) && bit p (mask N (plus v x))) e
      go (inr k) =
          rw (
            merge_other M sorted s base (plus u t) (λ e. k (sym e ∙ rest_of_u u v n t b)),
            merge_other M sorted s base (plus v t) (λ e. k (sym e ∙ rest_of_v u v n t b)),
            merge_other M sorted s base (plus u (plus v t)) (λ e. k (sym e ∙ rest_of_both u v n t b)),
          ) (link t b)

  merges_sorted : (ss : List (List ℕ)) (M : Model) → Sorted M → Bases u v ss → Sorted (merges u v M ss)
  merges_sorted [] M sorted bs = sorted
  merges_sorted (s ∷ ss) M sorted bs = merges_sorted ss (merge u v M s) (merge_sorted M sorted s bs.0) bs.1

  merges_keep_euler : (p : ℕ) (ss : List (List ℕ)) (M : Model) → Sorted M → Bases u v ss → LinkBits p u v M → euler p (merges u v M ss) ≡ euler p M
  merges_keep_euler p [] M sorted bs link = refl
  merges_keep_euler p (s ∷ ss) M sorted bs link =
      merges_keep_euler p ss (merge u v M s) (merge_sorted M sorted s bs.0) bs.1 (merge_keeps_link p M sorted s bs.0 link)
      ∙ merge_keeps_euler p M sorted s bs.0 link

  merges_falling : (ss : List (List ℕ)) (M : Model) → Sorted M → Bases u v ss → (q : List ℕ) → (Rising q → ⊥) → mask (merges u v M ss) q ≡ mask M q
  merges_falling [] M sorted bs q h = refl
  merges_falling (s ∷ ss) M sorted bs q h =
      merges_falling ss (merge u v M s) (merge_sorted M sorted s bs.0) bs.1 q h
      ∙ over_falling u v n s bs.0 M sorted (bit_or (mask M (plus u s)) (mask M (plus v s))) 0 0 q h

  -- a merge leaves the masks that the collapse will give
  merge_merged : (M : Model) → Sorted M → (s : List ℕ) → Base u v s → (t : List ℕ) → Rising t → merged u v (merge u v M s) t ≡ merged u v M t
  merge_merged M sorted s base t r = go (cases_Bool (has v t)) (cases_Bool (has u t)) (alike (rest u v t) s)
    where
      N : Model
      N = merge u v M s

      b : Base u v (rest u v t)
      b = rest_is_base u v n t r

      left : has v t ≡ false → less u t ≡ rest u v t
      left x = ap (less u) (sym (less_none v t x))

      go : (has v t ≡ true) ⊎ (has v t ≡ false) → (has u t ≡ true) ⊎ (has u t ≡ false) → (rest u v t ≡ s) ⊎ (rest u v t ≡ s → ⊥) → merged u v N t ≡ merged u v M t
      go (inl x) y z = rw x
      go (inr x) (inl y) (inl e) =
          let f : t ≡ plus u s = by_u u v n t r y x ∙ ap (plus u) e in
          let g : less u t ≡ s = left x ∙ e in
          let i : mask N t ≡ bit_or (mask M t) (mask M (plus v (less u t))) = ap (mask N) f ∙ merge_u M sorted s base ∙ ap (λ q. bit_or (mask M q) (mask M (plus v s))) (sym f) ∙ ap (λ q. bit_or (mask M t) (mask M (plus v q))) (sym g) in
          let j : mask N (plus v (less u t)) ≡ 0 = ap (λ q. mask N (plus v q)) g ∙ merge_v M sorted s base in
          rw (x, y, i, j) (or_zero_r (bit_or (mask M t) (mask M (plus v (less u t)))))
      go (inr x) (inl y) (inr k) =
          let i : mask N t ≡ mask M t = merge_other M sorted s base t k in
          let j : mask N (plus v (less u t)) ≡ mask M (plus v (less u t)) = merge_other M sorted s base (plus v (less u t)) (λ e. k (sym (rest_of_v u v n (rest u v t) b) ∙ ap (λ q. rest u v (plus v q)) (sym (left x)) ∙ e)) in
          rw (x, y, i, j)
      go (inr x) (inr y) z = rw (x, y) (over_neither u v n s base M sorted (bit_or (mask M (plus u s)) (mask M (plus v s))) 0 0 t y x)

  -- the list has what is left of every held simplex with v
  abbrev Complete : Model → List (List ℕ) → Type 0
  Complete M ss = (t : List ℕ) → Rising t → 0 < mask M t → has v t ≡ true → Member (rest u v t) ss

  -- after a merge the list may lack that base
  merge_complete : (M : Model) → Sorted M → (s : List ℕ) → Base u v s → (ss : List (List ℕ)) → Complete M (s ∷ ss) → Complete (merge u v M s) ss
  merge_complete M sorted s base ss full t r h x = go (alike (rest u v t) s) (cases_Bool (has u t))
    where
      N : Model
      N = merge u v M s

      empty : mask N t ≡ 0 → Member (rest u v t) ss
      empty e = absurd (omega arith)

      other : (rest u v t ≡ s → ⊥) → (rest u v t ≡ s) ⊎ Member (rest u v t) ss → Member (rest u v t) ss
      other k (inl e) = absurd (k e)
      other k (inr m) = m

      go : (rest u v t ≡ s) ⊎ (rest u v t ≡ s → ⊥) → (has u t ≡ true) ⊎ (has u t ≡ false) → Member (rest u v t) ss
      go (inl e) (inl y) = empty (ap (mask N) (by_both u v n t r y x ∙ ap (λ q. plus u (plus v q)) e) ∙ merge_both M sorted s base)
      go (inl e) (inr y) = empty (ap (mask N) (by_v u v n t r y x ∙ ap (plus v) e) ∙ merge_v M sorted s base)
      go (inr k) y = other k (full t r (rw (merge_other M sorted s base t k) at h) x)

  merges_masks : (ss : List (List ℕ)) (M : Model) → Sorted M → Bases u v ss → Complete M ss → (t : List ℕ) → Rising t → mask (merges u v M ss) t ≡ merged u v M t
  merges_masks [] M sorted bs full t r = go (cases_Bool (has v t)) (cases_Bool (has u t))
    where
      unheld : (q : List ℕ) → Rising q → has v q ≡ true → mask M q ≡ 0
      unheld q r x = not_held (mask M q) (λ h. full q r h x)

      go : (has v t ≡ true) ⊎ (has v t ≡ false) → (has u t ≡ true) ⊎ (has u t ≡ false) → mask M t ≡ merged u v M t
      go (inl x) y = rw x (unheld t r x)
      go (inr x) (inl y) =
          let k : has v (plus v (less u t)) ≡ true = let a = has_plus v v (less u t) in grind arith in
          rw (x, y, unheld (plus v (less u t)) (plus_rising v (less u t) (less_rising u t r)) k) (sym (or_zero_r (mask M t)))
      go (inr x) (inr y) = rw (x, y)
  merges_masks (s ∷ ss) M sorted bs full t r =
      merges_masks ss (merge u v M s) (merge_sorted M sorted s bs.0) bs.1 (merge_complete M sorted s bs.0 ss full) t r
      ∙ merge_merged M sorted s bs.0 t r

  -- what is left of each simplex of a model
  abbrev lefts : Model → List (List ℕ)
  lefts [] = []
  lefts (r ∷ rs) = cond (rises r.key) (rest u v r.key ∷ lefts rs) (lefts rs)

  lefts_are_bases : (M : Model) → Bases u v (lefts M)
  lefts_are_bases [] = tt
  lefts_are_bases (r ∷ rs) = go (lefts_are_bases rs) (rises r.key) refl
    where
      go : Bases u v (lefts rs) → (b : Bool) → rises r.key ≡ b → Bases u v (cond b (rest u v r.key ∷ lefts rs) (lefts rs))
      go more true e = (rest_is_base u v n r.key (rises_rising r.key e), more)
      go more false e = more

  listed_left : (r : Record (List ℕ) ℕ) (M : Model) → rises r.key ≡ true → Listed r M → Member (rest u v r.key) (lefts M)
  listed_left r [] e l = absurd l
  listed_left r (x ∷ xs) e l = go (listed_left r xs e) (rises x.key) refl l
    where
      go : (Listed r xs → Member (rest u v r.key) (lefts xs)) → (b : Bool) → rises x.key ≡ b → (r ≡ x) ⊎ Listed r xs → Member (rest u v r.key) (cond b (rest u v x.key ∷ lefts xs) (lefts xs))
      go more true f (inl h) = inl (ap (λ y. rest u v y.key) h)
      go more true f (inr l) = inr (more l)
      go more false f (inl h) = absurd (true≢false (sym e ∙ ap (λ y. rises y.key) h ∙ f))
      go more false f (inr l) = more l

  lefts_complete : (M : Model) → Complete M (lefts M)
  lefts_complete M t r h x = listed_left (record { key = t; value = mask M t }) M (rising_rises t r) (held_listed t M h)

  -- the merges at all the bases have the masks of the collapse
  merges_collapse : (M : Model) → Sorted M → Shaped M → Legal M → (q : List ℕ) → mask (collapse u v M) q ≡ mask (merges u v M (lefts M)) q
  merges_collapse M sorted shaped legal q = go (rising_told q)
    where
      go : Rising q ⊎ (Rising q → ⊥) → mask (collapse u v M) q ≡ mask (merges u v M (lefts M)) q
      go (inl r) = (image_masks u v M n sorted shaped legal).rising q r ∙ sym (merges_masks (lefts M) M sorted (lefts_are_bases M) (lefts_complete M) q r)
      go (inr k) =
          (image_masks u v M n sorted shaped legal).other q k
          ∙ sym (not_held (mask M q) (λ h. k (shaped q h).0)) ∙ sym (merges_falling (lefts M) M sorted (lefts_are_bases M) q k)

pub collapse_keeps_euler : CollapseKeepsEuler
collapse_keeps_euler p u v M n sorted shaped legal link =
    euler_from (total (counts_up p) N) (total (counts_down p) N) (total (counts_up p) L) (total (counts_down p) L) (omega (arith, same (counts_up p) (up_none p), same (counts_down p) (down_none p)))
    ∙ merges_keep_euler u v n p (lefts u v n M) M sorted (lefts_are_bases u v n M) (link_bits p u v M legal link)
  where
    N : Model
    N = collapse u v M

    L : Model
    L = merges u v M (lefts u v n M)

    same : (w : List ℕ → ℕ → ℕ) → ((k : List ℕ) → w k 0 ≡ 0) → total w N ≡ total w L
    same w none = same_masks_same_total w none N L (image_rule u v M sorted).sorted (merges_sorted u v n (lefts u v n M) M sorted (lefts_are_bases u v n M)) (merges_collapse u v n M sorted shaped legal)
