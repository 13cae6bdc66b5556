-- The walk over the heads is the definition's.
use Rattle.std.proofs.Common.{cond, eqb, ap, ◌∙◌, rules, tests}
use Rattle.std.proofs.lemmas.Iterator.Consumers.{fold_from_yields_List, YieldsList-from_first}
use Rattle.trail.specs.Heads.{heads_of}
use Rattle.trail.specs.Decoding.{notes_of}
use Rattle.trail.specs.declared.head.Head.{Head}
use Rattle.trail.specs.declared.walk.Heads.{Heads}
use Rattle.trail.proofs.Oldest.{traced_by_heads}
use Rattle.trail.proofs.trail.Trail.traced.Goals as goal

pub returns : goal.returns
returns c =
    fold_from_yields_List _ (λ at (h : Head). cond (eqb at h.v) h.u at) c.args.w c.fold.result c.fold.ensures.ran
    (YieldsList-from_first (λ x. x) (λ (h : Heads). heads_of (notes_of h.records.now)) (heads_of c.args.self.now.notes) (ap heads_of c.heads.ensures))
    (λ a x b q k. search (rules, tests))
    ∙ traced_by_heads c.args.self.now.notes c.args.w
