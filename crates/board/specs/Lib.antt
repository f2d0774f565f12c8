pub mod Board
pub mod BoardBytes
