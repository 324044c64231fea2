pub mod ByApp
mod Full
mod Kept
pub mod Lengths
pub mod Stored
