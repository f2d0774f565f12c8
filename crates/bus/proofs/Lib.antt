pub mod Runs
pub mod Boths
pub mod Midway
