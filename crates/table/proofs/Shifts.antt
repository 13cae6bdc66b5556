-- What moving rows by one place leaves.
use Rattle.std.proofs.Common.{◌≡◌, ℕ, suc, ◌+◌, ◌-◌, ◌<◌, ◌≤◌, List, ◌∷◌, ◌++◌, length, take, drop, set, sym, ap, ap₂, ◌∙◌, subst, add-one, arith}
use Rattle.std.specs.List.{insert, copy_within}
use Rattle.std.proofs.Math.Seq.{drop-append_seam}
use Rattle.std.proofs.lemmas.List.{take_all, set_split, length-take-le, length-drop, take-append-le, take-take, drop-take, drop-drop}
use Rattle.std.proofs.lemmas.List.Edits.{length-paste, take-paste}

-- lists that agree from n on agree further on
pub drop_further : {T : Type 0} (n m : ℕ) (xs ys : List T) → n ≤ m → drop n xs ≡ drop n ys → drop m xs ≡ drop m ys
drop_further n m xs ys h e =
    let s : n + (m - n) ≡ m = omega arith in
    subst (λ i. drop i xs ≡ drop i ys) s (sym (drop-drop (m - n) n xs) ∙ ap (drop (m - n)) e ∙ drop-drop (m - n) n ys)

module _ {T : Type 0} (old : List T) (at : ℕ) where
  -- the elements before the place, the new one, and those that were moved up
  pub moved_up : (x : T) → at < length old → set (copy_within old at (length old - 1) (at + 1)) at x ≡ insert (take (length old - 1) old) at x
  moved_up x h =
      let last : ℕ = length old - 1 in
      let n : ℕ = last - at in
      let long = length-drop at old in
      let moved : List T = copy_within old at last (at + 1) in
      let same : length moved ≡ length old = length-paste old (at + 1) (drop at old) n (omega arith) (omega arith) in
      let all : at + 1 + n ≡ length old = omega arith in
      let is : moved ≡ take (at + 1) old ++ take n (drop at old) =
      sym (take_all (at + 1 + n) moved (omega arith)) ∙ take-paste old (at + 1) (drop at old) n (omega arith) (omega arith) in
      let head : length (take (at + 1) old) ≡ at + 1 = length-take-le (at + 1) old (omega arith) in
      let before : take at moved ≡ take at (take last old) =
      ap (take at) is ∙ take-append-le at (take (at + 1) old) (take n (drop at old)) (omega arith) ∙ take-take at (at + 1) old (omega arith) ∙ sym (take-take at last old (omega arith)) in
      let part : at + n ≡ last = omega arith in
      let after : drop (suc at) moved ≡ drop at (take last old) =
      ap (drop (suc at)) is ∙ ap (λ m. drop m (take (at + 1) old ++ take n (drop at old))) (sym (head ∙ add-one at)) ∙ drop-append_seam (take (at + 1) old) (take n (drop at old))
      ∙ sym (ap (λ m. drop at (take m old)) (sym part) ∙ drop-take at n old) in
      set_split moved at x (omega arith) ∙ ap₂ (λ f b. f ++ x ∷ b) before after
