-- The numbers so far, and those of the pairs that are left, are the numbers of all the bytes.
use Rattle.std.proofs.Common.{◌≡◌, ◌+◌, ◌++◌, length, map, take}
use Rattle.std.specs.Iterator.Adapters.{take_source, take_count}
use Rattle.std.specs.Slice.Iter.{iter_rest}
use Rattle.file.proofs.Pairs.{number_of_pair}
use Rattle.file.specs.Numbers.{pairs}
use Rattle.file.proofs.vertices.vertices.Given as goal

abbrev pub invariant-loop-pair : goal.invariant-loop-pair
invariant-loop-pair l = (length l.numbers.items + take_count l.pair-iterator ≡ 4) × (l.numbers.items ++ take (take_count l.pair-iterator) (map number_of_pair (iter_rest (take_source l.pair-iterator))) ≡ take 4 (pairs l.bytes))
