pub mod Statements
pub mod Models
pub mod Scenarios
pub mod Wholes
pub mod Tales
pub mod Wrongs
