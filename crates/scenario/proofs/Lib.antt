pub mod Ends
pub mod Turns
pub mod Tellings
pub mod Refusals
