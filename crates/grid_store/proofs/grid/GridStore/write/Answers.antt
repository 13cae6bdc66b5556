use Rattle.std.proofs.Common.{arith}
use Rattle.grid_store.proofs.Changes.{counts_one, held_short, written_count, written_sorted, written_fits}
use Rattle.grid_store.proofs.grid.GridStore.write.Goals as goal

pub overflow_add-held : goal.overflow_add-held
overflow_add-held c = omega (arith, held_short c.args.self.now, c.counts.ensures, counts_one c.args.mask)

pub overflow_sub-held : goal.overflow_sub-held
overflow_sub-held c = omega (arith, c.counts.ensures, c.counts-2.ensures, written_count c.args.self.now c.args.p c.args.mask c.requires)

pub invariant_of-self : goal.invariant_of-self
invariant_of-self c =
    let g = c.args.self.now in
    let p = c.args.p in
    let m = c.args.mask in
    record {
      counted = omega (arith, c.counts.ensures, c.counts-2.ensures, written_count g p m c.requires);
      sorted = written_sorted g p m c.requires;
      fit = written_fits g p m c.requires (omega (arith, c.ranges.mask));
    }
