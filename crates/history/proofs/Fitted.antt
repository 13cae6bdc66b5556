-- What every store shows of its contents, in the words of the mathematics of collapse.
use Rattle.std.proofs.Common.{◌≡◌, ℕ, zero, suc, ◌<◌, ◌≤◌, true, ◌&&◌, leb, List, [], ◌∷◌, length, Some, None, Ordering, Less, Equal, Greater, unwrap_or, sym, refl, ap, ◌∙◌, arith}
use Rattle.std.proofs.lemmas.Bool.{and_parts, leb-true}
use Rattle.order.specs.Assoc.{by, lookup}
use Rattle.complex.specs.Model.{Model, mask, Legal}
use Rattle.complex.specs.Simplex.{colex, rises, proper, below, Rising}
use Rattle.complex.proofs.Faces.{rises_rising}
use Rattle.complex.proofs.Order.{colex_exact}
use Rattle.collapse.specs.Laws.{Positive, Shaped, Narrow}
use Rattle.collapse.specs.Laws as laws
use Rattle.store.specs.Contents.{Contents, Stored, fits}
use Rattle.store.proofs.Walks.{fit_parts, none_is_zero}

-- what is told of a key and its mask holds of every held simplex
held_all : (n : ℕ) (P : List ℕ → ℕ → Type 0) → ((s : List ℕ) (m : ℕ) → proper s ≡ true → below n s ≡ true → m < 256 → P s m) →
    (M : Model) → fits n M ≡ true → (s : List ℕ) → 0 < mask M s → P s (mask M s)
held_all n P f [] h s l = absurd (omega arith)
held_all n P f (r ∷ rs) h s l = go (held_all n P f rs (fit_parts n r rs h).rest s) (colex r.key s) refl l
  where
    go : (0 < mask rs s → P s (mask rs s)) → (o : Ordering) → colex r.key s ≡ o → 0 < unwrap_or (by o (lookup colex s rs) (Some r.value) None) 0 → P s (unwrap_or (by o (lookup colex s rs) (Some r.value) None) 0)
    go more Less e l = more l
    go more Equal e l =
        let k : r.key ≡ s = colex_exact r.key s e in
        let fit = fit_parts n r rs h in
        f s r.value (ap proper (sym k) ∙ fit.simplex) (ap (below n) (sym k) ∙ fit.ranged) fit.byte
    go more Greater e l = absurd (omega arith)

proper_shape : (s : List ℕ) → proper s ≡ true → Rising s × (0 < length s) × (length s ≤ 4)
proper_shape s h =
    let a = and_parts (leb 1 (length s)) (leb (length s) 4 && rises s) h in
    let b = and_parts (leb (length s) 4) (rises s) a.1 in
    (rises_rising s b.1, omega (arith, leb-true 1 (length s) a.0), leb-true (length s) 4 b.0)

pub fits_shaped : (n : ℕ) (M : Model) → fits n M ≡ true → Shaped M
fits_shaped n M h = held_all n (λ s m. Rising s × (0 < length s) × (length s ≤ 4)) (λ s m p b l. proper_shape s p) M h

pub fits_ranged : (n : ℕ) (M : Model) → fits n M ≡ true → (s : List ℕ) → 0 < mask M s → below n s ≡ true
fits_ranged n M h = held_all n (λ s m. below n s ≡ true) (λ s m p b l. b) M h

pub fits_positive : (n : ℕ) (M : Model) → fits n M ≡ true → Positive M
fits_positive n M h = none_is_zero n M h

narrow_or_none : (m : ℕ) → (0 < m → m < 256) → m < 256
narrow_or_none zero f = omega arith
narrow_or_none (suc m) f = f (omega arith)

pub fits_narrow : (n : ℕ) (M : Model) → fits n M ≡ true → Narrow M
fits_narrow n M h s = narrow_or_none (mask M s) (held_all n (λ s m. m < 256) (λ s m p b l. l) M h s)

-- a stored legal model is what the laws of collapse ask for
pub stored_sound : (c : Contents) → Stored c → Legal c.model → laws.Sound c.model
stored_sound c st legal = record {
  sorted = st.sorted;
  positive = fits_positive c.range c.model st.fit;
  shaped = fits_shaped c.range c.model st.fit;
  narrow = fits_narrow c.range c.model st.fit;
  legal = legal;
}
