-- What single puts, a lay and a mark come to, over what a store holds.
use Rattle.std.specs.Prelude.{◌≡◌, ℕ, zero, suc, ◌+◌, ◌<◌, ◌≤◌, Bool, true, false, cond, not, ◌&&◌, List, length, Some, None, Ok, Err, Result, ◌==◌, ◌≢◌, nat_le, nat_lt, refl}
use Rattle.std.proofs.Common.{sym, ap, subst, ◌∙◌, arith}
use Rattle.std.proofs.lemmas.Bool.{and_parts, and_from, cond-true, cond-false, eqb-true, ne_eqb, le-leb, lt-ltb, ltb-true, not_from_true}
use Rattle.complex.specs.Model.{Model, mask, write, Legal, lay, Laid, absent, mark, Marked, unmarked}
use Rattle.complex.specs.Simplex.{proper, below, rises, Rising, Face, faces}
use Rattle.complex.proofs.Faces.{rises_rising, told, faces_distinct, listed_is_face}
use Rattle.complex.proofs.Lays.{lay_changes, lay_keeps_legal, lays_add_the_absent}
use Rattle.complex.proofs.Marks.{mark_changes, mark_keeps_legal, marks_add_none}
use Rattle.complex.proofs.Masks.{bit_holds}
use Rattle.simplex.specs.Simplexes.{checked}
use Rattle.store.specs.Contents.{Contents, holding, Stored}
use Rattle.store.specs.Puts.{settled, put_answer, put_next}
use Rattle.store.proofs.Walks.{none_is_zero}
use Rattle.model.specs.Calls.{parts, lay_simplex, laid_simplex, lay_answer, mark_simplex, marked_simplex, mark_answer, Lays, Marks}
use Rattle.model.specs.declared.refusal.ModelRefusal.{ModelRefusal}
use Rattle.model.specs.declared.refusal.ModelRefusal.TheVariants.{Vertices, Range, Held, Full, Absent}

-- a put within range that needs no room, or finds some, is accepted
pub put_accepted : (c : Contents) (s : List ℕ) (m : ℕ) → 0 < m → below c.range s ≡ true → (mask c.model s ≡ 0 → length c.model < c.limit) → put_next c s m ≡ holding c (write c.model s m)
put_accepted c s m some low room = ap (λ r. settled r c (holding c (write c.model s m))) answer
  where
    free : (b : Bool) → (mask c.model s == 0) ≡ b → (b && length c.model == c.limit) ≡ false
    free true e = let l = room (eqb-true (mask c.model s) 0 e) in ne_eqb (length c.model) c.limit (omega arith)
    free false e = refl

    answer : put_answer c s m ≡ Ok tt
    answer =
        cond-false (m == 0) _ _ (ne_eqb m 0 (omega arith))
        ∙ cond-false (not (below c.range s)) _ _ (not_from_true _ low)
        ∙ cond-false (mask c.model s == 0 && length c.model == c.limit) _ _ (free (mask c.model s == 0) refl)

-- the faces of a held simplex are held
pub faces_held : (M : Model) (s : List ℕ) → Legal M → 0 < mask M s → (q : List ℕ) → Face q s → 0 < mask M q
faces_held M s legal h q f = bit_holds 0 (mask M q) (legal.closed 0 s q (legal.body s h) f)

-- laying and marking keep a model legal, accepted or not
pub laid_keeps_legal : (c : Contents) (s : List ℕ) → rises s ≡ true → Stored c → Legal c.model → Legal (laid_simplex c s).model
laid_keeps_legal c s r st legal = go (lay_simplex c s)
  where
    go : (a : Result ℕ ModelRefusal) → Legal (settled a c (holding c (lay c.model s))).model
    go (Ok n) = lay_keeps_legal c.model (lay c.model s) s (λ q. told s q (rises_rising s r)) legal (lay_changes c.model s st.sorted (rises_rising s r))
    go (Err e) = legal

-- a mark that is accepted found its simplex held
marked_held : (c : Contents) (p : ℕ) (s : List ℕ) (n : ℕ) → mark_simplex c p s ≡ Ok n → 0 < mask c.model s
marked_held c p s n e = go (not (below c.range s)) (mask c.model s) e
  where
    go : (b : Bool) (m : ℕ) → cond b (Err Range) (cond (m == 0) (Err Absent) (Ok (unmarked p c.model (faces s)))) ≡ Ok n → 0 < m
    go true m e = let z : ◌≡◌ {A = ℕ} 0 1 = cc in omega arith
    go false zero e = let z : ◌≡◌ {A = ℕ} 0 1 = cc in omega arith
    go false (suc m) e = omega arith

pub marked_keeps_legal : (c : Contents) (p : ℕ) (s : List ℕ) → rises s ≡ true → Stored c → Legal c.model → Legal (marked_simplex c p s).model
marked_keeps_legal c p s r st legal = go (mark_simplex c p s) refl
  where
    go : (a : Result ℕ ModelRefusal) → mark_simplex c p s ≡ a → Legal (settled a c (holding c (mark p c.model s))).model
    go (Ok n) e = mark_keeps_legal p c.model (mark p c.model s) s (λ q. told s q (rises_rising s r)) (marked_held c p s n e) legal (mark_changes p c.model s st.sorted (rises_rising s r))
    go (Err x) e = legal

-- what a lay or a mark left of a legal model is legal
module _ {S : Type 0} (contents : S → Contents) (x y : S) where
  pub laid_is_legal : (s : List ℕ) → rises s ≡ true → Stored (contents x) → Legal (contents x).model → contents y ≡ laid_simplex (contents x) s → Legal (contents y).model
  laid_is_legal s r st legal e = subst (λ (d : Contents). Legal d.model) (sym e) (laid_keeps_legal (contents x) s r st legal)

  pub marked_is_legal : (p : ℕ) (s : List ℕ) → rises s ≡ true → Stored (contents x) → Legal (contents x).model → contents y ≡ marked_simplex (contents x) p s → Legal (contents y).model
  marked_is_legal p s r st legal e = subst (λ (d : Contents). Legal d.model) (sym e) (marked_keeps_legal (contents x) p s r st legal)

-- what a slice of vertices was read as
pub checked_is : (s t : List ℕ) → Some s ≡ checked t → (proper t ≡ true) × (s ≡ t)
checked_is s t h = go (proper t) refl h
  where
    go : (b : Bool) → proper t ≡ b → Some s ≡ cond b (Some t) None → (proper t ≡ true) × (s ≡ t)
    go true e h = (e, cc)
    go false e h = (let z : ◌≡◌ {A = ℕ} 0 1 = cc in absurd (omega arith), cc)

proper_rises : (s : List ℕ) → proper s ≡ true → rises s ≡ true
proper_rises s h = (and_parts (nat_le (length s) 4) (rises s) (and_parts (nat_le 1 (length s)) (nat_le (length s) 4 && rises s) h).1).1

-- an accepted lay answers how many faces were absent
lay_answers : (c : Contents) (s : List ℕ) (n : ℕ) → lay_simplex c s ≡ Ok n → n ≡ absent c.model (faces s)
lay_answers c s n e = go (not (below c.range s)) (not (mask c.model s == 0)) (nat_lt c.limit (length c.model + absent c.model (faces s))) e
  where
    go : (x y z : Bool) → cond x (Err Range) (cond y (Err Held) (cond z (Err Full) (Ok (absent c.model (faces s))))) ≡ Ok n → n ≡ absent c.model (faces s)
    go true y z e = cc
    go false true z e = cc
    go false false true e = cc
    go false false false e = cc

settled_ok : {A E C : Type 0} (a : Result A E) (x : A) (old new : C) → a ≡ Ok x → settled a old new ≡ new
settled_ok a x old new e = ap (λ r. settled r old new) e

pub lays : (c d : Contents) (s t : List ℕ) (r : Result ℕ ModelRefusal) → Stored c → Legal d.model → Some s ≡ checked t → r ≡ lay_simplex c s → d ≡ laid_simplex c s → Lays c d t r
lays c d s t r st legal h value after =
    let k = checked_is s t h in
    let whole : lay_answer c t ≡ lay_simplex c t = cond-true (proper t) (lay_simplex c t) (Err Vertices) k.0 in
    let value' : r ≡ lay_simplex c t = value ∙ ap (lay_simplex c) k.1 in
    let after' : d ≡ laid_simplex c t = after ∙ ap (laid_simplex c) k.1 in
    let rising : Rising t = rises_rising t (proper_rises t k.0) in
    let new : (n : ℕ) → r ≡ Ok n → d ≡ holding c (lay c.model t) = λ n e. after' ∙ settled_ok (lay_simplex c t) n c (holding c (lay c.model t)) (sym value' ∙ e) in
    record {
      value = value' ∙ sym whole;
      after = after' ∙ sym (ap (λ a. settled a c (holding c (lay c.model t))) whole);
      masks = λ n e. subst (λ (x : Contents). Laid c.model x.model t) (sym (new n e)) (lay_changes c.model t st.sorted rising);
      added = λ n e. ap (λ x. length x.model) (new n e) ∙ lays_add_the_absent (faces t) c.model st.sorted (none_is_zero c.range c.model st.fit) (faces_distinct t rising) ∙ ap (λ k. length c.model + k) (sym (lay_answers c t n (sym value' ∙ e)));
      legal = legal;
    }

pub marks : (c d : Contents) (p : ℕ) (s t : List ℕ) (r : Result ℕ ModelRefusal) → (p ≢ 0) → p < 8 → Stored c → Legal c.model → Legal d.model → Some s ≡ checked t → r ≡ mark_simplex c p s → d ≡ marked_simplex c p s → Marks c d p t r
marks c d p s t r some few st old legal h value after =
    let k = checked_is s t h in
    let part : not (nat_le 1 p && nat_lt p parts) ≡ false = not_from_true _ (and_from _ _ (le-leb 1 p (omega (arith, positive p some))) (lt-ltb p parts few)) in
    let whole : mark_answer c p t ≡ mark_simplex c p t = cond-false (not (nat_le 1 p && nat_lt p parts)) _ _ part ∙ cond-true (proper t) (mark_simplex c p t) (Err Vertices) k.0 in
    let value' : r ≡ mark_simplex c p t = value ∙ ap (mark_simplex c p) k.1 in
    let after' : d ≡ marked_simplex c p t = after ∙ ap (marked_simplex c p) k.1 in
    let rising : Rising t = rises_rising t (proper_rises t k.0) in
    let new : (n : ℕ) → r ≡ Ok n → d ≡ holding c (mark p c.model t) = λ n e. after' ∙ settled_ok (mark_simplex c p t) n c (holding c (mark p c.model t)) (sym value' ∙ e) in
    record {
      value = value' ∙ sym whole;
      after = after' ∙ sym (ap (λ a. settled a c (holding c (mark p c.model t))) whole);
      masks = λ n e. subst (λ (x : Contents). Marked p c.model x.model t) (sym (new n e)) (mark_changes p c.model t st.sorted rising);
      held = ap (λ x. length x.model) after' ∙ go t rising (mark_simplex c p t) refl;
      legal = legal;
    }
  where
    positive : (n : ℕ) → (n ≢ 0) → 1 ≤ n
    positive zero f = absurd (f refl)
    positive (suc n) f = omega arith

    go : (t : List ℕ) → Rising t → (a : Result ℕ ModelRefusal) → mark_simplex c p t ≡ a → length (settled a c (holding c (mark p c.model t))).model ≡ length c.model
    go t u (Ok n) e = marks_add_none p (faces t) c.model st.sorted (λ q i. faces_held c.model t old (marked_held c p t n e) q (listed_is_face t q u i))
    go t u (Err x) e = refl

-- a part that is known has its number, below 8
pub known_part : (n p : ℕ) → Some n ≡ cond (nat_lt p parts) (Some p) None → (n ≡ p) × (p < 8)
known_part n p h = go (nat_lt p parts) refl h
  where
    go : (b : Bool) → nat_lt p parts ≡ b → Some n ≡ cond b (Some p) None → (n ≡ p) × (p < 8)
    go true e h = (cc, ltb-true p 8 e)
    go false e h = (cc, let z : ◌≡◌ {A = ℕ} 0 1 = cc in absurd (omega arith))
