pub mod Places
pub mod Laws
pub mod Masks
pub mod Stores
