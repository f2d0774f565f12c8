-- The pages that the contracts cite.
pub mod Dividers
pub mod Clock
