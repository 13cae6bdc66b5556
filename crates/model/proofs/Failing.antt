-- The walks of the search: what one simplex tells of all parts, and the first base of those that are left.
use Rattle.std.proofs.Common.{◌≡◌, ℕ, zero, suc, ◌-◌, ◌/◌, ◌%◌, ◌^◌, ◌<◌, Bool, true, false, cond, not, ◌&&◌, ◌||◌, eqb, ◌⊎◌, List, [], ◌∷◌, is_some, Some, None, Option, sym, refl, ap, ◌∙◌, inl, inr, pow-suc, one-add, arith}
use lib.Bits.{bit_and, bit_or}
use Rattle.std.proofs.lemmas.Nat.{shr-shr}
use Rattle.std.proofs.lemmas.Bool.{and_left, and_right, cases_Bool}
use Rattle.complex.specs.Mask.{bit}
use Rattle.complex.specs.Model.{Model, mask}
use Rattle.complex.specs.Simplex.{has, plus, less, Rising}
use Rattle.complex.proofs.Masks.{bit_of_or, bit_of_none}
use Rattle.collapse.specs.Split.{bases}
use Rattle.collapse.proofs.Images.{bit_of_and}
use Rattle.collapse.proofs.Vertices.{has_plus, has_less, plus_comm, plus_less, plus_rising, less_rising, same_has}
use Rattle.store.specs.Walk.{keys}
use Rattle.model.specs.Ties.{shows, first_of, tie_in, or_later}
use Rattle.model.proofs.Tying.{passes, first_step}

next_bit : (p m : ℕ) → bit (suc p) m ≡ bit p (m / 2)
next_bit p m = ap (λ n. eqb (m / 2 ^ n % 2) 1) (sym (one-add p)) ∙ ap (λ n. eqb (n % 2) 1) (sym (shr-shr m 1 p))

-- the bits that a number of k bits lacks
inverted_bits : (k p c : ℕ) → p < k → c < 2 ^ k → bit p (2 ^ k - 1 - c) ≡ not (bit p c)
inverted_bits zero p c l m = absurd (omega arith)
inverted_bits (suc k) zero c l m = let d = pow-suc 2 k in grind arith
inverted_bits (suc k) (suc p) c l m =
    let d = pow-suc 2 k in
    let half : (2 ^ suc k - 1 - c) / 2 ≡ 2 ^ k - 1 - c / 2 = omega arith in
    next_bit p (2 ^ suc k - 1 - c) ∙ ap (bit p) half ∙ inverted_bits k p (c / 2) (omega arith) (omega arith) ∙ ap not (sym (next_bit p c))

-- v added to a list that has it
plus_has : (v : ℕ) (k : List ℕ) → Rising k → has v k ≡ true → plus v k ≡ k
plus_has v k r h =
    same_has (plus v k) k (plus_rising v k r) r (λ q. let i = has_plus q v k in let j : q ≡ v → has q k ≡ true = λ e. rw e h in grind arith)

-- what a simplex k tells of its base, for part p
module _ (p u v : ℕ) (M : Model) (k : List ℕ) (rise : Rising k) where
  shows_by_masks : has u k ≡ true → shows p u v M (less u k) ≡ (not (has v (less u k)) && (bit p (mask M k) && (bit p (mask M (plus v (less u k))) && not (bit p (mask M (plus v k))))))
  shows_by_masks h =
      let s = less u k in
      let back : plus u s ≡ k = plus_less u k rise h in
      let both : plus u (plus v s) ≡ plus v k = plus_comm u v s (less_rising u k rise) ∙ ap (plus v) back in
      ap (λ x. not (has v s) && (bit p (mask M x) && (bit p (mask M (plus v s)) && not (bit p (mask M (plus u (plus v s))))))) back
      ∙ ap (λ x. not (has v s) && (bit p (mask M k) && (bit p (mask M (plus v s)) && not (bit p (mask M x))))) both

  -- one without u, or with v, tells nothing
  pub tells_nothing : (has u k ≡ false) ⊎ (has v k ≡ true) → bit p 0 ≡ passes u (shows p u v M) k
  tells_nothing x = bit_of_none p ∙ sym (go x (cases_Bool (has u k)))
    where
      never : (x y z : Bool) → (x && (y && (z && not y))) ≡ false
      never x y z = grind arith

      go : (has u k ≡ false) ⊎ (has v k ≡ true) → (has u k ≡ true) ⊎ (has u k ≡ false) → passes u (shows p u v M) k ≡ false
      go (inl e) y = and_left _ _ e
      go (inr w) (inl h) =
          let s = less u k in
          let same : plus v k ≡ k = plus_has v k rise w in
          and_right _ _
          (shows_by_masks h ∙ ap (λ x. not (has v s) && (bit p (mask M k) && (bit p (mask M (plus v s)) && not (bit p (mask M x))))) same
          ∙ never (not (has v s)) (bit p (mask M k)) (bit p (mask M (plus v s))))
      go (inr w) (inr e) = and_left _ _ e

  -- another tells by the masks of three simplexes
  pub tells_by_masks : p < 8 → has u k ≡ true → has v k ≡ false → (a b c : ℕ) → a ≡ mask M k → b ≡ mask M (plus v (less u k)) → c ≡ mask M (plus v k) → c < 256 →
      bit p (bit_and (bit_and a b) (255 - c)) ≡ passes u (shows p u v M) k
  tells_by_masks l h w a b c d e f m =
      let lacks : has v (less u k) ≡ false = (let i = has_less v u k rise in grind arith) in
      bit_of_and p (bit_and a b) (255 - c)
      ∙ joined (bit p (bit_and a b)) (bit p a) (bit p b) (bit p (255 - c)) (bit p c) (has u k) (has v (less u k)) (bit_of_and p a b) (inverted_bits 8 p c l m) h lacks
      ∙ ap (λ x. has u k && (not (has v (less u k)) && (bit p x && (bit p b && not (bit p c))))) d
      ∙ ap (λ x. has u k && (not (has v (less u k)) && (bit p (mask M k) && (bit p x && not (bit p c))))) e
      ∙ ap (λ x. has u k && (not (has v (less u k)) && (bit p (mask M k) && (bit p (mask M (plus v (less u k))) && not (bit p x))))) f
      ∙ ap (λ x. has u k && x) (sym (shows_by_masks h))
    where
      joined : (ab a b n c x y : Bool) → ab ≡ (a && b) → n ≡ not c → x ≡ true → y ≡ false → (ab && n) ≡ (x && (not y && (a && (b && not c))))
      joined ab a b n c x y i j h w = grind arith

-- the first base, of the simplexes of a list that have u, that passes
abbrev pub first_among : ℕ → (List ℕ → Bool) → List (List ℕ) → Option (List ℕ)
first_among u f [] = None
first_among u f (k ∷ ks) = cond (passes u f k) (Some (less u k)) (first_among u f ks)

-- of the simplexes of a model, it is the first of its bases that passes
pub first_among_all : (u : ℕ) (f : List ℕ → Bool) (M : Model) → first_among u f (keys M) ≡ first_of f (bases u M)
first_among_all u f [] = refl
first_among_all u f (r ∷ rs) = ap (λ o. cond (passes u f r.key) (Some (less u r.key)) o) (first_among_all u f rs) ∙ sym (first_step u f r rs)

-- some base passes here or further on
pub some_from_here_on : (u : ℕ) (f : List ℕ → Bool) (k : List ℕ) (ks : List (List ℕ)) (p old new : ℕ) (all : Bool) → bit p new ≡ passes u f k →
    (bit p old || is_some (first_among u f (k ∷ ks))) ≡ all → (bit p (bit_or old new) || is_some (first_among u f ks)) ≡ all
some_from_here_on u f k ks p old new all e inv =
    let i = bit_of_or p old new in
    let j = either (passes u f k) (less u k) (first_among u f ks) in
    regrouped (bit p (bit_or old new)) (bit p old) (bit p new) (passes u f k) (is_some (first_among u f ks)) (is_some (first_among u f (k ∷ ks))) i e j ∙ inv
  where
    either : (b : Bool) (t : List ℕ) (o : Option (List ℕ)) → is_some (cond b (Some t) o) ≡ (b || is_some o)
    either true t o = refl
    either false t o = refl

    regrouped : (on o n b x y : Bool) → on ≡ (o || n) → n ≡ b → y ≡ (b || x) → (on || x) ≡ (o || y)
    regrouped on o n b x y i e j = grind arith

pub is_none : (o : Option (List ℕ)) → is_some o ≡ false → o ≡ None
is_none None h = refl
is_none (Some s) h = cc

-- the first of these parts for which there is one
abbrev pub tie_among : List ℕ → ℕ → ℕ → Model → Option (ℕ × List ℕ)
tie_among [] u v M = None
tie_among (p ∷ ps) u v M = or_later p (tie_in p u v M) (tie_among ps u v M)

-- a part for which there is none is passed over
pub part_passed : (p : ℕ) (ps : List ℕ) (u v : ℕ) (M : Model) (o : Option (ℕ × List ℕ)) → tie_in p u v M ≡ None → tie_among (p ∷ ps) u v M ≡ o → tie_among ps u v M ≡ o
part_passed p ps u v M o e h = sym (ap (λ t. or_later p t (tie_among ps u v M)) e) ∙ h

-- a part for which there is one is the smallest
pub part_found : (p : ℕ) (ps : List ℕ) (u v : ℕ) (M : Model) (s : List ℕ) (o : Option (ℕ × List ℕ)) → tie_in p u v M ≡ Some s → tie_among (p ∷ ps) u v M ≡ o → Some (p, s) ≡ o
part_found p ps u v M s o e h = sym (ap (λ t. or_later p t (tie_among ps u v M)) e) ∙ h
