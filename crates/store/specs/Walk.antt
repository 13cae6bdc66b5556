-- What a walk over a store meets: the simplexes of a model, in its order.
pub use Rattle.order.specs.Assoc.{keys}
