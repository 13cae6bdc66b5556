-- Chains of joins put together and turned round.
use Rattle.order.specs.Chain.{Chain, here, step}

module _ {X : Type 0} {J : X → X → Type 0} where
  pub chain_then : {x y z : X} → Chain J x y → Chain J y z → Chain J x z
  chain_then here k = k
  chain_then (step j h) k = step j (chain_then h k)

  pub chain_back : ((x y : X) → J x y → J y x) → {x y : X} → Chain J x y → Chain J y x
  chain_back both here = here
  chain_back both (step j h) = chain_then (chain_back both h) (step (both _ _ j) here)
