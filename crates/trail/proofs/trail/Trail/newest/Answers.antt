-- The number at the end tells where the newest record begins.
use Rattle.std.proofs.Common.{◌+◌, ◌-◌, drop, ap, ◌∙◌, arith}
use Rattle.trail.specs.Notes.{record_length}
use Rattle.trail.specs.Decoding.{word}
use Rattle.trail.proofs.Newest.{newest_has_room, newest_is_read}
use Rattle.trail.proofs.trail.Trail.newest.Goals as goal

pub overflow_sub-self-inside-2 : goal.overflow_sub-self-inside-2
overflow_sub-self-inside-2 c = let r = newest_has_room _ _ c.self.invariant _ c.self.view_is (omega arith) in omega (arith, c.from-s.ensures, c.word_at.ensures)

pub returns : goal.returns
returns c =
    let bytes = c.self.inside.bytes in
    let used = c.self.inside.used in
    let e = c.head_at.ensures in
    let at = ap (λ n. used - n) (c.record_length.ensures ∙ ap record_length (c.from-s.ensures ∙ c.word_at.ensures)) in
    newest_is_read bytes used c.self.invariant _ c.self.view_is c.head_at.result (omega arith)
    (e.u ∙ ap (λ n. word (drop n bytes)) at)
    (e.v ∙ ap (λ n. word (drop (n + 2) bytes)) at)
    (e.s ∙ ap (λ n. word (drop (n + 4) bytes)) at)
