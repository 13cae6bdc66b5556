-- The vertices below n are tried from the last on, as the definition does.
use Rattle.std.proofs.Common.{◌≡◌, ℕ, zero, suc, cond, leb, true, false, ◌⊎◌, inl, inr, List, [], ◌∷◌, find, unwrap_or, refl, sym, ap, ◌∙◌, arith, rules, tests}
use Rattle.std.proofs.lemmas.Bool.{cases_Bool}
use Rattle.std.proofs.lemmas.Iterator.{YieldsList}
use Rattle.std.proofs.lemmas.Iterator.Search.{find_from_yields_List}
use Rattle.std.proofs.lemmas.Iterator.Adapters.{option_map_id}
use Rattle.std.specs.Iterator.{AlwaysYields}
use Rattle.std.specs.Iterator.Adapters.{rev_steps, rev_source}
use Rattle.std.specs.declared.iter.Rev.{Rev}
use Rattle.std.specs.declared.ops.Range.{Range}
use Rattle.std.proofs.iter.runs.Sources.{nat_range_steps_back}
use Rattle.grid_store.specs.Places.{term, largest}
use Rattle.grid_store.proofs.places.largest.Goals as goal

-- the numbers below n, from the last on
abbrev down : ℕ → List ℕ
down zero = []
down (suc n) = n ∷ down n

falls : (n : ℕ) (s : Rev (Range ℕ)) → (rev_source s).start ≡ 0 → (rev_source s).end ≡ n → AlwaysYields (rev_steps nat_range_steps_back) (λ x. x) s (down n)
falls zero s b e = λ x j p. omega (arith, p.1.0)
falls (suc n) s b e = ((λ j p. omega (arith, p.1.0)), λ x j p. (omega (arith, p.1.1, p.1.2), falls n j (p.0 ∙ b) (omega (arith, p.1.2))))

largest_found : (k r n : ℕ) → unwrap_or (find (λ x. leb (term k x) r) (down n)) 0 ≡ largest k r n
unfolding largest
largest_found k r zero = refl
largest_found k r (suc n) = go (largest_found k r n) (cases_Bool (leb (term k n) r))
  where
    go : unwrap_or (find (λ x. leb (term k x) r) (down n)) 0 ≡ largest k r n → (leb (term k n) r ≡ true) ⊎ (leb (term k n) r ≡ false) → unwrap_or (find (λ x. leb (term k x) r) (n ∷ down n)) 0 ≡ cond (leb (term k n) r) n (largest k r n)
    go more (inl e) = rw e refl
    go more (inr e) = rw e more

-- a range from 0, reversed
reversed : {s : Rev (Range ℕ)} (n : ℕ) → rev_source s ≡ record { start = 0; end = n } → YieldsList (rev_steps nat_range_steps_back) (λ x. x) s (down n)
reversed {s} n e = record { runs = falls n s (ap (λ (r : Range ℕ). r.start) e) (ap (λ (r : Range ℕ). r.end) e) }

pub returns : goal.returns
returns c =
    let found = find_from_yields_List (λ x. leb (term c.args.k x) c.args.r) _ _ c.find.result c.find.ensures.ran (reversed c.args.n c.rev.ensures.source) (λ x b q k. search (rules, tests)) in
    c.unwrap_or.ensures ∙ ap (λ o. unwrap_or o 0) (sym (option_map_id c.find.result) ∙ found) ∙ largest_found c.args.k c.args.r c.args.n
