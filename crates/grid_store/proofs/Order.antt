-- Places follow the order of simplexes and tell them apart.
use Rattle.std.proofs.Common.{◌≡◌, ℕ, zero, suc, ◌+◌, ◌<◌, ◌≤◌, true, ◌&&◌, leb, ◌⊎◌, List, [], ◌∷◌, length, Ordering, Less, Equal, Greater, sym, refl, ap, ◌∙◌, inl, inr, arith}
use Rattle.std.specs.Ordering.{ordering_then, nat_cmp}
use Rattle.std.proofs.lemmas.Bool.{and_parts, leb-true, cases_order}
use Rattle.std.proofs.lemmas.Bool.Decides.{nat_tests}
use Rattle.order.proofs.Ranks.{exchanged}
use Rattle.complex.specs.Simplex.{colex, rises, proper}
use Rattle.complex.proofs.Order.{colex_lawful, colex_exact}
use Rattle.grid_store.specs.Laws.{InGrid}
use Rattle.grid_store.specs.Places.{vertex_range, places, first_place, place}
use Rattle.grid_store.proofs.Choose.{choose, term_chooses}
use Rattle.grid_store.proofs.Ranks.{chosen_terms, terms_chosen, terms_fit, terms_rise}

pub record Proper (s : List ℕ) : Type 0 where
  pub some : 1 ≤ length s
  pub four : length s ≤ 4
  pub rising : rises s ≡ true

pub proper_parts : (s : List ℕ) → proper s ≡ true → Proper s
proper_parts s h =
    let p = and_parts (leb 1 (length s)) (leb (length s) 4 && rises s) h in
    let q = and_parts (leb (length s) 4) (rises s) p.1 in
    record { some = leb-true 1 (length s) p.0; four = leb-true (length s) 4 q.0; rising = q.1 }

-- the simplexes of a size stand between the first of that size and the first of the next
pub next_size : (k : ℕ) → 1 ≤ k → k ≤ 4 → first_place (suc k) ≡ first_place k + choose vertex_range k
next_size zero h l = absurd (omega arith)
next_size (suc zero) h l = omega (arith, term_chooses 1 32 l)
next_size (suc (suc zero)) h l = omega (arith, term_chooses 2 32 l)
next_size (suc (suc (suc zero))) h l = omega (arith, term_chooses 3 32 l)
next_size (suc (suc (suc (suc zero)))) h l = omega (arith, term_chooses 4 32 l)
next_size (suc (suc (suc (suc (suc k))))) h l = absurd (omega arith)

larger_later : (k : ℕ) → first_place k ≤ first_place (suc k)
larger_later zero = omega arith
larger_later (suc zero) = omega arith
larger_later (suc (suc zero)) = omega arith
larger_later (suc (suc (suc zero))) = omega arith
larger_later (suc (suc (suc (suc zero)))) = omega arith
larger_later (suc (suc (suc (suc (suc k))))) = omega arith

pub sizes_rise : (j k : ℕ) → j ≤ k → first_place j ≤ first_place k
sizes_rise j zero h = let e : j ≡ 0 = omega arith in rw e (omega arith)
sizes_rise j (suc k) h = go (sizes_rise j k) (cases_order j (suc k))
  where
    go : (j ≤ k → first_place j ≤ first_place k) → (j ≡ suc k) ⊎ ((j < suc k) ⊎ (suc k < j)) → first_place j ≤ first_place (suc k)
    go more (inl e) = omega (arith, ap first_place e)
    go more (inr (inl l)) = omega (arith, more (omega arith), larger_later k)
    go more (inr (inr l)) = absurd (omega arith)

terms_are : (s : List ℕ) → Proper s → place s ≡ first_place (length s) + chosen_terms 1 s
terms_are s p = omega (arith, terms_chosen 1 s (omega (arith, p.four)))

pub place_below : (s : List ℕ) → InGrid s → place s < first_place (suc (length s))
place_below [] g = absurd (omega (arith, (proper_parts [] g.simplex).some))
place_below (x ∷ xs) g =
    let p = proper_parts (x ∷ xs) g.simplex in
    omega (arith, terms_are (x ∷ xs) p, terms_fit vertex_range x xs p.rising g.ranged, next_size (suc (length xs)) p.some p.four)

pub place_in_grid : (s : List ℕ) → InGrid s → place s < places
place_in_grid s g =
    omega (arith, place_below s g, sizes_rise (suc (length s)) 5 (omega (arith, (proper_parts s g.simplex).four)))

pub fewer_first : (s t : List ℕ) → length s < length t → colex s t ≡ Less
fewer_first [] [] l = absurd (omega arith)
fewer_first [] (y ∷ t) l = refl
fewer_first (x ∷ s) [] l = absurd (omega arith)
fewer_first (x ∷ s) (y ∷ t) l = ap (λ o. ordering_then o (nat_cmp x y)) (fewer_first s t (omega arith))

places_rise : (s t : List ℕ) → InGrid s → InGrid t → colex s t ≡ Less → place s < place t
places_rise s t g h c = go (cases_order (length s) (length t))
  where
    go : (length s ≡ length t) ⊎ ((length s < length t) ⊎ (length t < length s)) → place s < place t
    go (inl e) =
        let p = proper_parts s g.simplex in
        omega (arith, terms_are s p, terms_are t (proper_parts t h.simplex), terms_rise s t p.rising e c, ap first_place e)
    go (inr (inl l)) = omega (arith, place_below s g, sizes_rise (suc (length s)) (length t) l)
    go (inr (inr l)) = let e = exchanged colex colex_lawful t s Less (fewer_first t s l) in let z : ◌≡◌ {A = ℕ} 0 1 = cc in absurd (omega arith)

ranked_less : (m n : ℕ) → m < n → Less ≡ nat_cmp m n
ranked_less m n l = grind (arith, nat_tests)

ranked_greater : (m n : ℕ) → n < m → Greater ≡ nat_cmp m n
ranked_greater m n l = grind (arith, nat_tests)

ranked_equal : (m n : ℕ) → m ≡ n → Equal ≡ nat_cmp m n
ranked_equal m n e = grind (arith, nat_tests)

-- the place of a simplex keeps the order
pub places_keep_order : (s t : List ℕ) → InGrid s → InGrid t → colex s t ≡ nat_cmp (place s) (place t)
places_keep_order s t g h = go (colex s t) refl
  where
    go : (o : Ordering) → colex s t ≡ o → o ≡ nat_cmp (place s) (place t)
    go Less e = ranked_less (place s) (place t) (places_rise s t g h e)
    go Equal e = ranked_equal (place s) (place t) (ap place (colex_exact s t e))
    go Greater e = ranked_greater (place s) (place t) (places_rise t s h g (exchanged colex colex_lawful s t Greater e))

-- and is one to one
pub places_tell_apart : (s t : List ℕ) → InGrid s → InGrid t → place s ≡ place t → s ≡ t
places_tell_apart s t g h e = colex_exact s t (places_keep_order s t g h ∙ sym (ranked_equal (place s) (place t) e))
