pub mod Nodes
pub mod Classes
