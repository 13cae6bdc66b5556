pub mod Entries
pub mod Fits
pub mod Puts
pub mod Changes
