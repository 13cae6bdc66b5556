-- The search stops at the first end, or at the length.
use Rattle.std.proofs.Common.{take, drop, ap, ◌∙◌, eqb, rules, tests}
use Rattle.std.proofs.lemmas.Iterator.{YieldsList-from_slice}
use Rattle.std.proofs.lemmas.Iterator.Search.{position_from_yields_List}
use Rattle.script.proofs.Cutting.{place_found, take_place, drop_place}
use Rattle.script.proofs.lines.cut.Goals as goal

pub returns : goal.returns
returns c =
    let bytes = c.args.bytes.now in
    let found = position_from_yields_List (λ b. eqb b c.args.end) _ _ c.position-at.result c.position-at.ensures.ran (YieldsList-from_slice bytes c.iter.ensures.rest) (λ x b q k. search (rules, tests)) in
    let at = c.unwrap_or.ensures ∙ place_found c.args.end bytes _ found in
    record {
      front = c.split_at.ensures.front ∙ ap (λ n. take n bytes) at ∙ take_place c.args.end bytes;
      back = c.split_at.ensures.back ∙ ap (λ n. drop n bytes) at ∙ drop_place c.args.end bytes;
    }
