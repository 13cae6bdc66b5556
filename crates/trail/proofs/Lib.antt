pub mod Decoded
pub mod Settled
pub mod Newest
pub mod Pending
pub mod Oldest
