-- What each way through a put answers and leaves.
use Rattle.std.proofs.Common.{◌≡◌, ◌<◌, Some, None, sym, refl, ap, ◌∙◌, is_err, arith}
use Rattle.std.proofs.lemmas.Bool.{cond-true, cond-false, eq-eqb, ne_eqb, true≢false}
use Rattle.complex.specs.Model.{mask}
use Rattle.simplex.specs.Simplexes.{vertices}
use Rattle.std.proofs.lemmas.List.{length-take-le}
use Rattle.table.specs.Held.{held}
use Rattle.table_store.specs.Entries.{length_entries}
use Rattle.table.proofs.Shifts.{drop_further}
use Rattle.table_store.specs.Limits.{vertex_range}
use Rattle.table_store.specs.Stores.{contents, contents_length}
use Rattle.table_store.proofs.Changes.{Changed, Kept, removed_changed, removed_kept, put_changed, put_succeeds, put_kept, changed_contents}
use Rattle.table_store.proofs.Fits.{one_fits}
use Rattle.table_store.proofs.Puts.{removal_accepted, full_refused, put_accepted, succeeds, accepted_next, refused_next}
use Rattle.table_store.proofs.records.methods.TableStoreStore.put.Goals as goal
use Rattle.table_store.proofs.records.methods.TableStoreStore.put.Goals.{After-put, else-look-eq0-via-then-look-eq0+else-len-self, else-look-eq0-via-else-look-eq0}

pub invariant_of-self : goal.invariant_of-self
invariant_of-self c =
    let t = c.args.self.now in
    let k = removed_kept t c.args.s c.remove.new.self.table (removed_changed t c.args.s c.remove.new.self.table c.remove.ensures.does c.remove.ensures.room) in
    record { used = k.used; lent = k.lent; few = k.few; fit = k.fit }

pub returns-then-mask-eq0 : goal.returns-then-mask-eq0
returns-then-mask-eq0 c =
    let t = c.args.self.now in
    let s = c.args.s in
    let new = c.remove.new.self.table in
    let value = removal_accepted (contents t) (vertices s) c.args.mask c.if-mask-eq0.true in
    let changed = removed_changed t s new c.remove.ensures.does c.remove.ensures.room in
    record {
      value = sym value;
      after = changed_contents t s new None c.args.mask changed (cond-true _ _ _ (eq-eqb _ 0 c.if-mask-eq0.true)) ∙ sym (accepted_next (contents t) (vertices s) c.args.mask value);
      lender = c.remove.ensures.lender;
      refused = λ h. absurd (true≢false (sym h));
      surplus = drop_further t.table.table.len t.limit new.records.now t.table.table.records.now t.used c.remove.ensures.rest;
    }

pub returns-then-len-self : goal.returns-then-len-self
returns-then-len-self c =
    let t = c.args.self.now in
    let s = c.args.s in
    let value = full_refused (contents t) (vertices s) c.args.mask c.if-mask-eq0.false (sym c.if-not-within.ensures) (sym c.look.ensures ∙ c.if-look-eq0.true) (length_entries (held t.table.table) ∙ sym c.len.ensures ∙ c.if-len-self.true) in
    record {
      value = sym value;
      after = sym (refused_next (contents t) (vertices s) c.args.mask value);
      lender = refl;
      refused = λ h. refl;
      surplus = refl;
    }

-- a simplex that is put anew finds room
free : (c : After-put) → mask (contents c.args.self.now).model (vertices c.args.s) ≡ 0 → c.args.self.now.table.table.len < c.args.self.now.limit
free c absent =
    elim c.else-look-eq0.branch [
      | else-look-eq0-via-then-look-eq0+else-len-self w ↦ let t = c.args.self.now in omega (arith, w.if-len-self.false, w.len.ensures, length-take-le t.table.table.len t.table.table.records.now t.table.good.0, t.used)
      | else-look-eq0-via-else-look-eq0 w ↦ absurd (w.if-look-eq0.false (c.look.ensures ∙ absent))
    ]

changed : (c : After-put) → Changed c.args.self.now c.args.s (Some c.args.mask) c.put.new.self.table
changed c =
    let t = c.args.self.now in
    put_changed t c.args.s c.put.new.self.table (free c) c.args.mask c.put.result c.put.ensures.does c.put.ensures.room

kept : (c : After-put) → Kept c.args.self.now c.put.new.self.table
kept c =
    let fit = one_fits vertex_range c.args.s c.args.mask (sym c.if-not-within.ensures) (omega (arith, c.if-mask-eq0.false)) (omega (arith, c.ranges.mask)) in
    put_kept c.args.self.now c.args.s c.put.new.self.table (free c) c.args.mask (changed c) fit

pub invariant_of-self-2 : goal.invariant_of-self-2
invariant_of-self-2 c = let k = kept c in record { used = k.used; lent = k.lent; few = k.few; fit = k.fit }

pub returns : goal.returns
returns c =
    let p = (goal.at.returns c).After-put in
    let t = c.args.self.now in
    let s = c.args.s in
    let new = c.put.new.self.table in
    let value = put_accepted (contents t) (vertices s) c.args.mask c.if-mask-eq0.false (sym c.if-not-within.ensures) (λ absent. omega (arith, contents_length t, free p absent)) in
    let done = succeeds c.map_err.result (c.map_err.ensures.variant ∙ put_succeeds t s new (free p) c.args.mask c.put.result c.put.ensures.does) in
    record {
      value = done ∙ sym value;
      after = changed_contents t s new (Some c.args.mask) c.args.mask (changed p) (cond-false _ _ _ (ne_eqb _ 0 c.if-mask-eq0.false)) ∙ sym (accepted_next (contents t) (vertices s) c.args.mask value);
      lender = c.put.ensures.lender;
      refused = λ h. absurd (true≢false (sym h ∙ ap is_err done));
      surplus = drop_further new.len t.limit new.records.now t.table.table.records.now (kept p).used c.put.ensures.unused;
    }
