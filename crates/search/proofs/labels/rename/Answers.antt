-- A turn writes the relabelled record over the one that it reads.
use Rattle.std.proofs.Common.{set, sym, ap, ◌∙◌}
use Rattle.std.proofs.lemmas.List.Edits.{map_over_more}
use Rattle.search.specs.Classes.{relabelled}
use Rattle.search.proofs.labels.rename.Goals as goal

pub loop-row-preserved : goal.loop-row-preserved
loop-row-preserved g c =
    let l = c.loop-row in
    let x = c.row-item.result in
    let f = relabelled g.N.Order.ranks c.args.a c.args.b in
    ap (set l.rows l.row-index) (c.relabel.ensures ∙ ap f (sym c.row-item.is)) ∙ map_over_more f c.args.rows.now l.rows l.row-index x c.loop-row-test.true l.invariant c.row-item.is
