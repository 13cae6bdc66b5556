pub mod Places
pub mod Shifts
pub mod Changes
