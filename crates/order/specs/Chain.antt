-- Chains of joins.

-- a chain of joins from one element to another
pub data Chain {X : Type 0} (J : X → X → Type 0) : X → X → Type 0 where
  here : {x : X} → Chain J x x
  step : {x y z : X} → J x y → Chain J y z → Chain J x z
