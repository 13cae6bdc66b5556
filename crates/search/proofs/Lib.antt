pub mod Walks
pub mod Listing
pub mod Uniting
pub mod Gathering
pub mod Classing
