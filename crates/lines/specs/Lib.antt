pub mod Script
pub mod AnyLine
