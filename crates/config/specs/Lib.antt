pub mod Settings
pub mod Clocking
