pub mod Stacks
pub mod Passes
