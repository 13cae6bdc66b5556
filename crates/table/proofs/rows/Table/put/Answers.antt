-- The records in use after the change, and that they rise.
use Rattle.std.proofs.Common.{◌≤◌, length, drop, ◌+◌, ◌++◌, set, Some, Ok, Err, sym, ap, ◌∙◌, subst, arith}
use Rattle.std.specs.Cmp.{IsTotalOrder}
use Rattle.std.proofs.lemmas.List.{length-set, length-append, length-drop, length-take-le}
use Rattle.std.proofs.lemmas.Bool.{true≢false, or_left, or_right, lt-ltb}
use Rattle.order.specs.Assoc.{rising}
use Rattle.order.proofs.Puts.{put_keeps_rising}
use Rattle.table.specs.Held.{held}
use Rattle.table.specs.Places.{Sought}
use Rattle.table.proofs.Changes.{overwritten, inserted}
use Rattle.table.proofs.rows.Table.put.Goals as goal

pub returns-in-Ok-clause-does : goal.returns-in-Ok-clause-does
returns-in-Ok-clause-does g c good =
    let rank = g.K.Order.ranks in
    let m = g.met.K.Order in
    let ok : IsTotalOrder rank = record { antisymm = m.flip; trans = m.chain; congr = m.alike } in
    let t = c.args.self.now in
    let k = c.args.key in
    let v = c.args.value in
    let at = c.in-Ok.at in
    let new = set t.records.now at (record { key = k; value = v }) in
    let sought : Sought rank k (held t) (Ok at) = subst (λ xs. Sought rank k xs (Ok at)) c.rows.ensures.is c.in-Ok.ensures in
    let holds = overwritten rank k t.records.now t.len at good.1 v good.0 sought in
    let within : t.len ≤ length new = omega (arith, length-set t.records.now at (record { key = k; value = v }), good.0) in
    record {
      fits = sym (or_left _ _ (sought.1 good.1).1);
      holds = holds;
      good = (within, ap (rising rank) holds ∙ put_keeps_rising rank ok k (Some v) (held t) good.1);
      long = sym (length-take-le t.len new within);
      untouched = λ f. absurd (true≢false f);
    }

pub returns-in-Err-clause-does : goal.returns-in-Err-clause-does
returns-in-Err-clause-does g c good =
    let rank = g.K.Order.ranks in
    let m = g.met.K.Order in
    let ok : IsTotalOrder rank = record { antisymm = m.flip; trans = m.chain; congr = m.alike } in
    let t = c.args.self.now in
    let k = c.args.key in
    let v = c.args.value in
    let at = c.in-Err.at in
    let new = c.insert_at.new.rows ++ drop (t.len + 1) t.records.now in
    let sought : Sought rank k (held t) (Err at) = subst (λ xs. Sought rank k xs (Err at)) c.rows.ensures.is c.in-Err.ensures in
    let holds = inserted rank k t.records.now t.len at good.1 v c.insert_at.new.rows c.if-self.true sought c.insert_at.ensures in
    let within : t.len + 1 ≤ length new = omega (arith, length-append c.insert_at.new.rows (drop (t.len + 1) t.records.now), c.insert_at.auto.rows, c.if-self.true, length-drop (t.len + 1) t.records.now) in
    record {
      fits = sym (or_right _ _ (lt-ltb _ _ c.if-self.true));
      holds = holds;
      good = (within, ap (rising rank) holds ∙ put_keeps_rising rank ok k (Some v) (held t) good.1);
      long = sym (length-take-le (t.len + 1) new within);
      untouched = λ f. absurd (true≢false f);
    }
