pub mod Boths
pub mod Runs
pub mod Midway
pub mod Padding
pub mod States
