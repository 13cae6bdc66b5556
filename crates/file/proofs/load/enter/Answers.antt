-- A marked entry is marked with its part, on the vertices that its bytes are.
use Rattle.std.proofs.Common.{◌≡◌, ℕ, List, ◌∙◌, sym, ap}
use Rattle.model.specs.Calls.{mark_answer, marked}
use Rattle.file.specs.Entry.{Content, content, vertex_bytes}
use Rattle.file.specs.Load.{entry_answer, entry_next, vertices_of}
use Rattle.file.proofs.load.enter.Goals as goal

-- the vertices that are handed on are those of the entry's bytes
handed_on : (x y : Content) (vs ns bs : List ℕ) → vs ≡ ns → ns ≡ vertices_of bs → bs ≡ vertex_bytes x → x ≡ y → vs ≡ vertices_of (vertex_bytes y)
handed_on x y vs ns bs slice numbers bytes is = slice ∙ numbers ∙ ap vertices_of (bytes ∙ ap vertex_bytes is)

pub returns-in-Marked-clause-value : goal.returns-in-Marked-clause-value
returns-in-Marked-clause-value g c =
    let is = ap content c.in-Marked.is in
    let numbers = handed_on _ _ _ _ _ c.as_slice-in-Marked.ensures.value c.vertices-numbers.ensures c.bytes.ensures is in
    c.mark.ensures.value ∙ (λ d. mark_answer (g.S.Store.contents c.args.draft.now.store) (c.from.ensures d) (numbers d)) ∙ ap (entry_answer (g.S.Store.contents c.args.draft.now.store)) (sym is)

pub returns-in-Marked-clause-after : goal.returns-in-Marked-clause-after
returns-in-Marked-clause-after g c =
    let is = ap content c.in-Marked.is in
    let numbers = handed_on _ _ _ _ _ c.as_slice-in-Marked.ensures.value c.vertices-numbers.ensures c.bytes.ensures is in
    c.mark.ensures.after ∙ (λ d. marked (g.S.Store.contents c.args.draft.now.store) (c.from.ensures d) (numbers d)) ∙ ap (entry_next (g.S.Store.contents c.args.draft.now.store)) (sym is)
