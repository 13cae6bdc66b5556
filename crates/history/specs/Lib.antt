pub mod Past
pub mod Sound
pub mod Carried
pub mod Promise
pub mod Laws
