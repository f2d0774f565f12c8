-- The lemmas that the proofs share.
pub mod Wins
pub mod Laws
