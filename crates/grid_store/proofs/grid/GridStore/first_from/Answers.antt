-- The first byte that is set tells the first simplex that is held.
use Rattle.std.proofs.Common.{◌≡◌, ℕ, ◌+◌, List, length, drop, Option, Some, sym, ap, ◌∙◌, arith}
use Rattle.std.proofs.lemmas.Slice.{between_to_end}
use Rattle.std.specs.List.{position, slice_range}
use Rattle.std.specs.Option.{option_map}
use Rattle.simplex.specs.Simplexes.{found}
use Rattle.order.specs.Assoc.{first}
use Rattle.grid_store.specs.Places.{simplex_at}
use Rattle.grid_store.specs.Masks.{masks_from}
use Rattle.grid_store.proofs.FirstHeld.{is_set, first_held}
use Rattle.grid_store.proofs.grid.GridStore.first_from.Goals as goal

-- what the place of the first byte that is set, in the bytes from a place on, tells
held_at : (from : ℕ) (grid bytes later : List ℕ) (o r : Option ℕ) → grid ≡ bytes → later ≡ slice_range grid from (length grid) → o ≡ position is_set later → o ≡ r → option_map (λ i. simplex_at (from + i)) r ≡ first (masks_from from (drop from bytes))
held_at from grid bytes later o r whole rest is at =
    let same = rest ∙ between_to_end grid from (length grid) (omega arith) ∙ ap (drop from) whole in
    ap (option_map (λ i. simplex_at (from + i))) (sym at ∙ is ∙ ap (position is_set) same) ∙ sym (first_held from (drop from bytes))

pub returns-in_err-first_set : goal.returns-in_err-first_set
returns-in_err-first_set c =
    ap found c.from_residual-in_err-first_set.ensures
    ∙ held_at c.args.from c.grid.result.now _ c.in_ok-later.later.now c.first_set.result _ c.grid.ensures c.in_ok-later.ensures.lookup.0.2 c.first_set.ensures c.in_err-first_set.was

pub returns : goal.returns
returns c =
    ap Some c.simplex_at.ensures
    ∙ held_at c.args.from c.grid.result.now _ c.in_ok-later.later.now c.first_set.result _ c.grid.ensures c.in_ok-later.ensures.lookup.0.2 c.first_set.ensures c.in_ok-first_set.was
