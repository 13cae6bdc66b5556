pub mod Simplex
pub mod Mask
pub mod Model
pub mod Legality
pub mod Laws
