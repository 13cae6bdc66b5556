use Rattle.std.proofs.Common.{◌≡◌, ℕ, ◌+◌, ◌-◌, List, [], Some, Ok, Err, Result, IsOk, unwrap_or, refl, sym, ap, ◌∙◌, arith}
use Rattle.std.proofs.lemmas.Bool.{cond-true}
use Rattle.std.proofs.lemmas.Option.{none-some}
use Rattle.std.specs.Result.{result_ok}
use Rattle.simplex.specs.Simplexes.{vertices, checked, found}
use Rattle.simplex.specs.declared.simplex.Simplex.{Simplex}
use Rattle.simplex.specs.declared.simplex.makes.NotRising.{NotRising}
use Rattle.grid_store.specs.Places.{term, largest, simplex_at}
use Rattle.grid_store.proofs.Chosen.{simplex_in_grid}
use Rattle.grid_store.proofs.Finding.{finding_starts, found_within, finding_steps, finding_ends}
use Rattle.grid_store.proofs.places.simplex_at.Goals as goal
use Rattle.grid_store.proofs.places.simplex_at.Goals.{After-largest-last, After-term-rest, After-try_from}

pub loop-k-init : goal.loop-k-init
loop-k-init c = rw (c.first_place.ensures, c.size_at-size.ensures) (finding_starts c.args.p _ c.requires refl)

-- the vertex that is found
vertex : (c : After-largest-last) → c.largest-last.result ≡ largest c.loop-k.k c.loop-k.rest c.loop-k.last
vertex c =
    let l = c.loop-k in
    let e : l.k - 1 + 1 ≡ l.k = omega (arith, c.loop-k-test.true) in
    c.largest-last.ensures ∙ ap (λ k. largest k l.rest l.last) e

-- its term
term_found : (c : After-term-rest) → c.term-rest.result ≡ term c.loop-k.k c.largest-last.result
term_found c =
    let l = c.loop-k in
    let e : l.k - 1 + 1 ≡ l.k = omega (arith, c.loop-k-test.true) in
    c.term-rest.ensures ∙ ap (λ k. term k c.largest-last.result) e

pub term-rest-requires : goal.term-rest-requires
term-rest-requires c =
    let l = c.loop-k in
    let some = c.loop-k-test.true in
    let w = found_within c.args.p c.size_at-size.result l.vertices l.rest l.last l.k some l.invariant in
    (omega (arith, vertex c, w.0), omega arith, omega (arith, l.invariant.fewer, l.invariant.four))

pub overflow_sub-rest-in-loop-k : goal.overflow_sub-rest-in-loop-k
overflow_sub-rest-in-loop-k c =
    let l = c.loop-k in
    let w = found_within c.args.p c.size_at-size.result l.vertices l.rest l.last l.k c.loop-k-test.true l.invariant in
    let found = (goal.at.overflow_sub-rest-in-loop-k c).After-largest-last in
    omega (arith, term_found c, ap (term l.k) (vertex found), w.1)

pub loop-k-preserved : goal.loop-k-preserved
loop-k-preserved c =
    let l = c.loop-k in
    let found = (goal.at.loop-k-preserved c).After-largest-last in
    rw (term_found c, vertex found) (finding_steps c.args.p c.size_at-size.result l.vertices l.rest l.last l.k c.loop-k-test.true l.invariant)

-- what is found of a result that is Ok
found_ok : (r : Result Simplex NotRising) (s : List ℕ) → found (result_ok r) ≡ Some s → IsOk r
found_ok (Ok t) s h = refl
found_ok (Err e) s h = absurd (none-some s h)

found_is : (r : Result Simplex NotRising) (t : Simplex) (s : List ℕ) → r ≡ Ok t → found (result_ok r) ≡ Some s → vertices t ≡ s
found_is r t s is h = ap (λ o. unwrap_or o []) (sym (ap (λ q. found (result_ok q)) is) ∙ h)

-- the vertices that are found are those of the place
made : (c : After-try_from) → found (result_ok c.try_from.result) ≡ Some (simplex_at c.args.p)
made c =
    let l = c.loop-k in
    c.try_from.ensures
    ∙ ap checked (finding_ends c.args.p c.size_at-size.result l.vertices l.rest l.last l.k (omega (arith, c.loop-k-test.false)) l.invariant)
    ∙ cond-true _ _ _ (simplex_in_grid c.args.p c.requires).simplex

pub unwrap-requires : goal.unwrap-requires
unwrap-requires c = found_ok c.try_from.result (simplex_at c.args.p) (made (goal.at.unwrap-requires c).After-try_from)

pub returns : goal.returns
returns c = found_is c.try_from.result c.unwrap.result (simplex_at c.args.p) c.unwrap.ensures (made (goal.at.returns c).After-try_from)
