pub mod Sizes
pub mod Takings
pub mod Pairs
pub mod Written
pub mod Readable
