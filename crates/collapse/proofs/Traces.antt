-- A list of collapses keeps the pieces of each part.
use Rattle.std.proofs.Common.{ℕ, refl, ap, ◌∙◌}
use Rattle.complex.specs.Model.{Model}
use Rattle.collapse.specs.Image.{moved}
use Rattle.collapse.specs.Standing.{traced}
use Rattle.collapse.specs.PieceLaws.{none, more, SamePieces, TracesKeepPieces}
use Rattle.collapse.proofs.Chains.{collapse_keeps_pieces}

-- pieces kept by one map and then by another are kept by both in turn
same_pieces_in_turn : (p : ℕ) (M L N : Model) (f g : ℕ → ℕ) → SamePieces p M L f → SamePieces p L N g → SamePieces p M N (λ x. g (f x))
same_pieces_in_turn p M L N f g a b = record {
  vertex = λ x i. b.vertex (f x) (a.vertex x i);
  all = λ y i. let d = b.all y i in let k = a.all d.0 d.1 in (k.0, k.1, ap g k.2 ∙ d.2);
  forward = λ x y i j w. b.forward (f x) (f y) (a.vertex x i) (a.vertex y j) (a.forward x y i j w);
  back = λ x y i j w. a.back x y i j (b.back (f x) (f y) (a.vertex x i) (a.vertex y j) w);
}

pub traces_keep_pieces : TracesKeepPieces
traces_keep_pieces p M N ks none = record { vertex = λ x i. i; all = λ y i. (y, i, refl); forward = λ x y i j w. w; back = λ x y i j w. w }
traces_keep_pieces p M N ks (more {L = L} {u = u} {v = v} {ks = rest} s r) =
    same_pieces_in_turn p M L N (moved u v) (traced rest) (collapse_keeps_pieces p u v M L s) (traces_keep_pieces p L N rest r)
