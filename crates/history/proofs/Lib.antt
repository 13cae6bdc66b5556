pub mod Fitted
pub mod Sounds
pub mod Traced
