pub mod Words
pub mod Arities
