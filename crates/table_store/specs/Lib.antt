pub mod Limits
pub mod Entries
pub mod Stores
