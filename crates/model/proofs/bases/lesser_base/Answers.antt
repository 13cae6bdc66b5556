use Rattle.std.proofs.Common.{Some, sym, ap, ◌∙◌, ap₂}
use Rattle.std.specs.Option.{option_map}
use Rattle.simplex.specs.Simplexes.{vertices_or_none}
use Rattle.model.specs.Notes.{lesser}
use Rattle.model.proofs.Ahead.{lesser_is}
use Rattle.model.proofs.bases.lesser_base.Goals as goal

pub returns-in-Some-Some : goal.returns-in-Some-Some
returns-in-Some-Some c =
    ap Some (ap vertices_or_none c.min.ensures ∙ lesser_is c.in-Some-Some.a c.in-Some-Some.b)
    ∙ sym (ap₂ (λ a b. lesser (option_map vertices_or_none a) (option_map vertices_or_none b)) c.in-Some-Some.is-0 c.in-Some-Some.is-1)
