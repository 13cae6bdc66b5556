pub mod Contents
pub mod Puts
pub mod Walk
