pub mod Entry
pub mod Outcome
pub mod Reading
pub mod Numbers
pub mod Format
pub mod Load
