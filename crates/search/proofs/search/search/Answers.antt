-- Each turn joins one more node with those before it; then all are gathered.
use Rattle.std.proofs.Common.{◌≡◌, ℕ, ◌+◌, ◌-◌, ◌<◌, [], ◌++◌, length, get_or, take, drop, Some, None, sym, ap, ◌∙◌, arith}
use Rattle.std.proofs.lemmas.List.{length-map, take_at, drop_at, drop_all}
use Rattle.std.proofs.lemmas.Bool.{cond-true, cond-false}
use Rattle.search.specs.Classes.{joined_on, gathered_from, gathered, class_count}
use Rattle.search.specs.Nodes.{own, keys}
use Rattle.search.specs.declared.classes.Classes.{Classes}
use Rattle.search.proofs.Classing.{gathered_classed}
use Rattle.search.proofs.Gathering.{one_of, none_told, counted_some, counted_none, keys_own, keys_joined, gathered_on}
use Rattle.search.proofs.Walks.{itself}
use Rattle.search.proofs.search.search.Goals as goal

abbrev classes : ℕ → ℕ → Classes
classes n k = record { nodes = n; classes = k }

pub loop-at-init : goal.loop-at-init
loop-at-init g c =
    let nodes = g.J.Joining.nodes c.args.graph.now in
    let n = counted_some c.in_ok-n.n (length c.args.rows.now) (length nodes) c.in_ok-n.ensures.value in
    let front : take (c.in_ok-n.n - 0) c.list.new.rows ≡ own nodes = ap (take (c.in_ok-n.n - 0)) c.list.ensures ∙ take_at (own nodes) (drop (length nodes) c.args.rows.now) (c.in_ok-n.n - 0) (omega (arith, length-map nodes itself, n.1)) in
    (ap keys front ∙ keys_own nodes, ap (λ rows. gathered_from g.J.Node.Order.ranks (g.J.Joining.joins c.args.graph.now) [] rows nodes) front)

pub loop-at-preserved : goal.loop-at-preserved
loop-at-preserved g c =
    let rank = g.J.Node.Order.ranks in
    let J = g.J.Joining.joins c.args.graph.now in
    let nodes = g.J.Joining.nodes c.args.graph.now in
    let at = c.loop-at.at in
    let labels = c.loop-at.labels in
    let l = c.loop-at.invariant in
    let n = counted_some c.in_ok-n.n (length c.args.rows.now) (length nodes) c.in_ok-n.ensures.value in
    let within : at < length labels = omega (arith, n.1, c.loop-at-test.true, ap length l.0, length-map labels (λ r. r.key)) in
    let d = one_of labels at within in
    let is = c.join.ensures d ∙ ap (λ front. joined_on rank J (take at front) labels (get_or labels at d).key) l.0 in
    (ap keys is ∙ keys_joined rank J (take at nodes) labels (get_or labels at d).key ∙ l.0, ap (λ rows. gathered_from rank J (take (at + 1) nodes) rows (drop (at + 1) nodes)) is ∙ gathered_on rank J nodes labels at d l.0 within ∙ l.1)

pub returns : goal.returns
returns g c =
    let m = g.met.J.Node.Order in
    let rank = g.J.Node.Order.ranks in
    let J = g.J.Joining.joins c.args.graph.now in
    let nodes = g.J.Joining.nodes c.args.graph.now in
    let at = c.loop-at.at in
    let labels = c.loop-at.labels in
    let rows = c.args.rows.now in
    let l = c.loop-at.invariant in
    let n = counted_some c.in_ok-n.n (length rows) (length nodes) c.in_ok-n.ensures.value in
    let all : labels ≡ gathered rank J nodes = ap (gathered_from rank J (take at nodes) labels) (sym (drop_all at nodes (omega (arith, n.1, c.loop-at-test.false)))) ∙ l.1 in
    let rest : drop (c.in_ok-n.n - 0) c.list.new.rows ≡ drop (length nodes) rows = ap (drop (c.in_ok-n.n - 0)) c.list.ensures ∙ drop_at (own nodes) (drop (length nodes) rows) (c.in_ok-n.n - 0) (omega (arith, length-map nodes itself, n.1)) in
    record {
      value = ap (λ m. Some (classes m c.count_own.result)) n.1 ∙ ap (λ k. Some (classes (length nodes) k)) (c.count_own.ensures ∙ ap (class_count rank) all) ∙ sym (cond-true _ (Some (classes (length nodes) (class_count rank (gathered rank J nodes)))) None n.0);
      after = ap (λ front. front ++ drop (c.in_ok-n.n - 0) c.list.new.rows) all ∙ ap (λ rest. gathered rank J nodes ++ rest) rest ∙ sym (cond-true _ (gathered rank J nodes ++ drop (length nodes) rows) rows n.0);
      classed = gathered_classed rank (record { antisymm = m.flip; trans = m.chain; congr = m.alike }) nodes c.count.ensures.sorted J (g.J.Joining.both c.args.graph.now);
    }

pub returns-in_err-n : goal.returns-in_err-n
returns-in_err-n g c =
    let m = g.met.J.Node.Order in
    let rank = g.J.Node.Order.ranks in
    let J = g.J.Joining.joins c.args.graph.now in
    let nodes = g.J.Joining.nodes c.args.graph.now in
    let rows = c.args.rows.now in
    let short = counted_none (length rows) (length nodes) c.in_err-n.ensures.value in
    record {
      value = none_told c.from_residual.result c.from_residual.ensures.0 ∙ sym (cond-false _ (Some (classes (length nodes) (class_count rank (gathered rank J nodes)))) None short);
      after = sym (cond-false _ (gathered rank J nodes ++ drop (length nodes) rows) rows short);
      classed = gathered_classed rank (record { antisymm = m.flip; trans = m.chain; congr = m.alike }) nodes c.count.ensures.sorted J (g.J.Joining.both c.args.graph.now);
    }
