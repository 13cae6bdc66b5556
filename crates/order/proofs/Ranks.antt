-- What follows from the laws of an order.
use Rattle.std.proofs.Common.{◌≡◌, true, Ordering, Less, Equal, Greater, sym, refl, ap, ◌∙◌}
use Rattle.std.specs.Ordering.{is_lt, ordering_reverse}
use Rattle.std.specs.Cmp.{IsTotalOrder}

pub is_less : (o : Ordering) → is_lt o ≡ true → o ≡ Less
is_less Less h = refl
is_less Equal h = cc
is_less Greater h = cc

own_reverse : (o : Ordering) → o ≡ ordering_reverse o → o ≡ Equal
own_reverse Less h = cc
own_reverse Equal h = refl
own_reverse Greater h = cc

module _ {K : Type 0} (c : K → K → Ordering) (ok : IsTotalOrder c) where
  -- a key is the same as itself
  pub self_same : (x : K) → c x x ≡ Equal
  self_same x = own_reverse (c x x) (ok.antisymm x x)

  pub exchanged : (x y : K) (o : Ordering) → c x y ≡ o → c y x ≡ ordering_reverse o
  exchanged x y o e = ok.antisymm y x ∙ ap ordering_reverse e

  -- the same keys may replace each other on the right too
  pub alike_right : (x y z : K) → c x y ≡ Equal → c z x ≡ c z y
  alike_right x y z e = ok.antisymm z x ∙ ap ordering_reverse (ok.congr x y z e) ∙ sym (ok.antisymm z y)
