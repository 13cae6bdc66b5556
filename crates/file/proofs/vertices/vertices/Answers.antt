-- A pair of bytes makes one more number.
use Rattle.std.proofs.Common.{◌++◌, map, take, sym, ◌∙◌, arith}
use Rattle.std.specs.Iterator.Adapters.{take_source, take_count}
use Rattle.std.specs.Slice.Iter.{iter_rest}
use Rattle.file.proofs.Pairs.{number_of_pair, one_more}
use Rattle.file.proofs.vertices.vertices.Goals as goal

pub loop-pair-preserved : goal.loop-pair-preserved
loop-pair-preserved c =
    let l = c.loop-pair in
    let step = c.in-Some.ensures.steps in
    let s = l.pair-iterator in
    let t = c.next.new.self in (
      omega arith,
      one_more l.numbers.items c.push.new.self.items c.from_be_bytes.result (take_count t) (take_count s) c.in-Some.pair.now (iter_rest (take_source t)) c.push.ensures.items (omega arith) step.1
          ∙ (λ d. l.numbers.items ++ take (take_count s) (map number_of_pair (sym step.0 d))) ∙ l.invariant.1,
    )
