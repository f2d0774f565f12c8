pub mod Calls
pub mod Steps
pub mod Lines
pub mod Options
pub mod Totals
