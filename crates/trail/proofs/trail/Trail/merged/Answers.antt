-- The walk over the heads is the definition's.
use Rattle.std.proofs.Common.{eqb, ap, ◌∙◌, rules, tests}
use Rattle.std.proofs.lemmas.Iterator.Search.{any_from_yields_List}
use Rattle.std.proofs.lemmas.Iterator.Consumers.{YieldsList-from_first}
use Rattle.trail.specs.Heads.{heads_of}
use Rattle.trail.specs.Decoding.{notes_of}
use Rattle.trail.specs.declared.head.Head.{Head}
use Rattle.trail.specs.declared.walk.Heads.{Heads}
use Rattle.trail.proofs.Oldest.{merged_by_heads}
use Rattle.trail.proofs.trail.Trail.merged.Goals as goal

pub returns : goal.returns
returns c =
    any_from_yields_List (λ (h : Head). eqb c.args.w h.v) c.any.new.self _ c.any.result c.any.ensures.ran
    (YieldsList-from_first (λ x. x) (λ (h : Heads). heads_of (notes_of h.records.now)) (heads_of c.args.self.now.notes) (ap heads_of c.heads.ensures))
    (λ x b q k. search (rules, tests))
    ∙ merged_by_heads c.args.self.now.notes c.args.w
