pub mod Ranks
pub mod Puts
pub mod Maps
pub mod Laters
pub mod Chains
