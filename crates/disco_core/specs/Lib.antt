pub mod Moves
pub mod Past
pub mod Refusals
pub mod State
pub mod Tied
pub mod Written
