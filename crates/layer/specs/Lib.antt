pub mod Kinds
pub mod Undone
pub mod Changed
