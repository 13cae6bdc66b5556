-- The records in use after the removal, and that they rise.
use Rattle.std.proofs.Common.{◌≡◌, ◌-◌, ◌≤◌, length, take, drop, ◌++◌, None, Ok, Err, sym, ap, ◌∙◌, subst, arith}
use Rattle.std.specs.Cmp.{IsTotalOrder}
use Rattle.std.specs.List.{remove}
use Rattle.std.proofs.lemmas.List.{length-append, length-take-le, drop_at}
use Rattle.order.specs.Assoc.{rising, put}
use Rattle.order.proofs.Puts.{put_keeps_rising}
use Rattle.table.specs.Held.{held}
use Rattle.table.specs.Places.{Sought}
use Rattle.table.proofs.Changes.{taken_out, unchanged_is_put}
use Rattle.table.proofs.Shifts.{drop_further}
use Rattle.table.proofs.rows.Table.remove.Goals as goal

pub returns-in-Ok-clause-rest : goal.returns-in-Ok-clause-rest
returns-in-Ok-clause-rest g c =
    let old = c.args.self.now.records.now in
    let used = c.min-self.result in
    let new = c.close_gap.new.rows in
    let long : length new ≡ used = c.close_gap.ensures.len ∙ length-take-le used old (omega arith) in
    drop_further used c.args.self.now.len (new ++ drop used old) old (omega arith) (drop_at new (drop used old) used long)

pub returns-in-Ok-clause-does : goal.returns-in-Ok-clause-does
returns-in-Ok-clause-does g c good =
    let rank = g.K.Order.ranks in
    let m = g.met.K.Order in
    let ok : IsTotalOrder rank = record { antisymm = m.flip; trans = m.chain; congr = m.alike } in
    let t = c.args.self.now in
    let k = c.args.key.now in
    let old = t.records.now in
    let at = c.in-Ok.at in
    let used = c.min-self.result in
    let new = c.close_gap.new.rows in
    let all : used ≡ t.len = omega (arith, c.min-self.ensures, good.0) in
    let sought : Sought rank k (held t) (Ok at) = subst (λ xs. Sought rank k xs (Ok at)) c.rows.ensures.is c.in-Ok.ensures in
    let gone = subst (λ n. take (length (take n old) - 1) new ≡ remove (take n old) at) all c.close_gap.ensures.front in
    let long = subst (λ n. length new ≡ length (take n old)) all c.close_gap.ensures.len in
    let holds : take (used - 1) (new ++ drop used old) ≡ put rank k None (held t) =
    subst (λ n. take (n - 1) (new ++ drop n old) ≡ put rank k None (held t)) (sym all) (taken_out rank k old t.len at good.1 new good.0 sought gone long) in
    let within : used - 1 ≤ length (new ++ drop used old) = omega (arith, length-append new (drop used old), long, length-take-le t.len old good.0, all) in
    record {
      holds = holds;
      good = (within, ap (rising rank) holds ∙ put_keeps_rising rank ok k None (held t) good.1);
      long = sym (length-take-le (used - 1) (new ++ drop used old) within);
    }

pub returns-in_default-clause-does : goal.returns-in_default-clause-does
returns-in_default-clause-does g c good =
    let rank = g.K.Order.ranks in
    let t = c.args.self.now in
    let k = c.args.key.now in
    let at = c.in_default.field-0 in
    let sought : Sought rank k (held t) (Err at) = subst (λ xs. Sought rank k xs (Err at)) c.rows.ensures.is c.in_default.ensures in
    record {
      holds = unchanged_is_put rank k (held t) (sought.1 good.1).1;
      good = good;
      long = sym (length-take-le t.len t.records.now good.0);
    }
