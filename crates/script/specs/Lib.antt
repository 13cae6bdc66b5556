-- Lines, their commands and answers, and what the program prints.
pub mod Line
pub mod Lines
pub mod Text
pub mod Transcript
