-- Lemmas that several proofs share.
pub mod Broken
pub mod Cutting
pub mod Numerals
pub mod Numbers
