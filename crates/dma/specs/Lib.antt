pub mod Grants
pub mod Moves
