pub mod Inverses
pub mod Pieces
