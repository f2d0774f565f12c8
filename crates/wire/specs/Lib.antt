pub mod Answers
pub mod Machine
pub mod Causality
pub mod ByteLists
pub mod Noted
