-- What a put answers in each case, and what an accepted one leaves.
use Rattle.std.proofs.Common.{◌≡◌, ℕ, ◌<◌, Bool, true, false, cond, not, ◌&&◌, eqb, List, length, Ok, Err, Result, is_ok, refl, ap, ◌∙◌, ⊎_elim, arith}
use Rattle.std.proofs.lemmas.Bool.{and_left, and_right, and_from, cases_eq, cond-true, cond-false, eq-eqb, ne_eqb, not_from_true}
use Rattle.complex.specs.Model.{mask, write}
use Rattle.complex.specs.Simplex.{below}
use Rattle.store.specs.Contents.{Contents, holding}
use Rattle.store.specs.Puts.{put_answer, put_next, settled}
use Rattle.store.specs.declared.refusal.StoreRefusal.TheVariants.{Full}

-- a success with nothing to tell
pub succeeds : {E : Type 0} (r : Result (Unit {0}) E) → is_ok r ≡ true → r ≡ Ok tt
succeeds (Ok x) h = refl
succeeds (Err e) h = cc

module _ (c : Contents) (s : List ℕ) (m : ℕ) where
  pub removal_accepted : m ≡ 0 → put_answer c s m ≡ Ok tt
  removal_accepted e = cond-true (eqb m 0) _ _ (eq-eqb m 0 e)

  in_range : (b : Bool) → (m ≡ 0 → ⊥) → below c.range s ≡ true → (eqb (mask c.model s) 0 && eqb (length c.model) c.limit) ≡ b → put_answer c s m ≡ cond b (Err Full) (Ok tt)
  in_range b some ranged e =
      cond-false (eqb m 0) _ _ (ne_eqb m 0 some)
      ∙ cond-false (not (below c.range s)) _ _ (not_from_true (below c.range s) ranged)
      ∙ ap (λ full. cond full (Err Full) (Ok tt)) e

  pub full_refused : (m ≡ 0 → ⊥) → below c.range s ≡ true → mask c.model s ≡ 0 → length c.model ≡ c.limit → put_answer c s m ≡ Err Full
  full_refused some ranged absent full =
      in_range true some ranged (and_from (eqb (mask c.model s) 0) (eqb (length c.model) c.limit) (eq-eqb _ 0 absent) (eq-eqb _ _ full))

  -- a simplex is put where it is held, or there is room
  pub put_accepted : (m ≡ 0 → ⊥) → below c.range s ≡ true → (mask c.model s ≡ 0 → length c.model < c.limit) → put_answer c s m ≡ Ok tt
  put_accepted some ranged free =
      in_range false some ranged
      (⊎_elim
      (λ absent. and_right (eqb (mask c.model s) 0) (eqb (length c.model) c.limit) (ne_eqb _ _ (λ full. omega (arith, free absent))))
      (λ held. and_left (eqb (mask c.model s) 0) (eqb (length c.model) c.limit) (ne_eqb _ 0 held))
      (cases_eq (mask c.model s) 0))

  pub accepted_next : put_answer c s m ≡ Ok tt → put_next c s m ≡ holding c (write c.model s m)
  accepted_next e = ap (λ a. settled a c (holding c (write c.model s m))) e

  pub refused_next : put_answer c s m ≡ Err Full → put_next c s m ≡ c
  refused_next e = ap (λ a. settled a c (holding c (write c.model s m))) e
