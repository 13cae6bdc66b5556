use Rattle.std.proofs.Common.{◌≡◌, pos, ◌-ℤ◌, sym, ◌∙◌, ap₂, subst, arith}
use Rattle.std.proofs.lemmas.Int.{ints}
use Rattle.model.proofs.Counted.{Counting, counting_first, counted_few, all_counted}
use Rattle.model.proofs.questions.euler.Goals as goal

pub loop-s-init : goal.loop-s-init
loop-s-init g c =
    let now = c.args.store.now in
    subst (λ left. Counting c.args.part.number (g.S.Store.contents now).model left 0 0) (sym (c.into_iter-s-iterator.ensures.into_iter_gives ∙ c.of-s-items.ensures)) (counting_first c.args.part.number (g.S.Store.contents now) (g.S.Store.stored now))

pub overflow_add-up : goal.overflow_add-up
overflow_add-up g c = let few = counted_few _ (g.S.Store.contents c.args.store.now) _ _ _ (g.S.Store.stored c.args.store.now) c.loop-s.invariant in omega (arith, few.0)

pub overflow_add-down : goal.overflow_add-down
overflow_add-down g c = let few = counted_few _ (g.S.Store.contents c.args.store.now) _ _ _ (g.S.Store.stored c.args.store.now) c.loop-s.invariant in omega (arith, few.1)

pub overflow_cast-result : goal.overflow_cast-result
overflow_cast-result g c = let few = counted_few _ (g.S.Store.contents c.args.store.now) _ _ _ (g.S.Store.stored c.args.store.now) c.loop-s.invariant in omega (arith, ints, few.0)

pub overflow_cast-result-2 : goal.overflow_cast-result-2
overflow_cast-result-2 g c = let few = counted_few _ (g.S.Store.contents c.args.store.now) _ _ _ (g.S.Store.stored c.args.store.now) c.loop-s.invariant in omega (arith, ints, few.1)

pub overflow_sub-result : goal.overflow_sub-result
overflow_sub-result g c = let few = counted_few _ (g.S.Store.contents c.args.store.now) _ _ _ (g.S.Store.stored c.args.store.now) c.loop-s.invariant in omega (arith, ints, few.0, few.1)

pub returns : goal.returns
returns g c =
    let now = g.S.Store.contents c.args.store.now in
    let few = counted_few _ now _ _ _ (g.S.Store.stored c.args.store.now) c.loop-s.invariant in
    let all = all_counted _ now.model _ _ _ c.in-None.ensures.steps.0 c.loop-s.invariant in
    let whole : _ ≡ pos c.loop-s.up -ℤ pos c.loop-s.down = omega (arith, ints, few.0, few.1) in
    whole ∙ ap₂ (λ a b. pos a -ℤ pos b) all.0 all.1
