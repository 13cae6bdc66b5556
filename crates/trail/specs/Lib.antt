pub mod Notes
pub mod Decoding
pub mod Past
pub mod Heads
pub mod Questions
pub mod Law
