pub mod Order
pub mod Masks
pub mod Faces
pub mod Writes
pub mod Lays
pub mod Marks
pub mod Told
