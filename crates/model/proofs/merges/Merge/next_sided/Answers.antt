use Rattle.std.proofs.Common.{rules}
use borrow.Author.Tests.{tests}
use Rattle.std.proofs.lemmas.Iterator.Consumers.{YieldsList-from_first}
use Rattle.std.proofs.lemmas.Iterator.Search.{find_from_yields_List}
use Rattle.simplex.specs.Simplexes.{vertices}
use Rattle.model.specs.Sides.{one_sided}
use Rattle.model.proofs.merges.Merge.next_sided.Goals as goal

pub returns : goal.returns
returns g c =
    find_from_yields_List (one_sided c.args.self.u c.args.self.v) _ _ _ c.find.ensures.ran (YieldsList-from_first vertices (λ w. w) _ c.after.ensures) (λ x b q k. search (rules, tests))
