pub mod Parity
pub mod Turns
pub mod Beneath
