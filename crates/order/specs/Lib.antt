pub mod Assoc
pub mod Chain
