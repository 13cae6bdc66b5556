use Rattle.std.proofs.Common.{◌≡◌, ℕ, ◌<◌, ◌||◌, is_some}
use Rattle.complex.specs.Mask.{bit}
use Rattle.model.specs.Ties.{shows, tie_in}
use Rattle.model.proofs.Failing.{first_among}
use Rattle.model.proofs.merges.Merge.failing_parts.Given as goal

abbrev pub invariant-loop-s : goal.invariant-loop-s
invariant-loop-s g l =
    (p : ℕ) → p < 8 →
    (bit p l.parts || is_some (first_among l.self.u (shows p l.self.u l.self.v (g.S.Store.contents l.store).model) l.s-iterator)) ≡ is_some (tie_in p l.self.u l.self.v (g.S.Store.contents l.store).model)
