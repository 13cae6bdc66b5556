pub mod Shapes
pub mod Simplexes
pub mod Alike
pub mod FacesLeft
