-- The first record is the oldest, and what follows it are the bytes of the others.
use Rattle.std.proofs.Common.{drop, ap, ◌∙◌, arith, rules}
use Rattle.trail.proofs.Decoded.{formed_of}
use Rattle.trail.proofs.Oldest.{oldest_stands, left_after, heads_after}
use Rattle.trail.proofs.walk.HeadsIterator.next.Goals as goal

pub split_at-requires : goal.split_at-requires
split_at-requires c =
    let o = oldest_stands c.args.self.now.records.now (search rules) c.args.self.now.formed in
    omega (arith, o.room, c.record_length.ensures, c.head_at-head.ensures.s ∙ o.head.s)

pub invariant_of-self : goal.invariant_of-self
invariant_of-self c =
    let bs = c.args.self.now.records.now in
    let o = oldest_stands bs (search rules) c.args.self.now.formed in
    record { formed = formed_of _ o.ns (left_after bs _ c.head_at-head.result.s o (c.head_at-head.ensures.s ∙ o.head.s) (c.split_at.ensures.back ∙ ap (λ n. drop n bs) c.record_length.ensures)) }

pub returns-clause-steps : goal.returns-clause-steps
returns-clause-steps c =
    let bs = c.args.self.now.records.now in
    let e = c.head_at-head.ensures in
    heads_after bs _ c.head_at-head.result (oldest_stands bs (search rules) c.args.self.now.formed) e.u e.v e.s (c.split_at.ensures.back ∙ ap (λ n. drop n bs) c.record_length.ensures)

pub returns-clause-goes : goal.returns-clause-goes
returns-clause-goes c =
    let first = returns-clause-steps c in
    search rules
