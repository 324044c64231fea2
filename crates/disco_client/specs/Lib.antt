pub mod Copies
pub mod Steps
pub mod Tracks
