pub mod Places
pub mod Corners
