pub mod Tables
pub mod Bits
