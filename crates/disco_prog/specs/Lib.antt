pub mod Fleets
pub mod Replay
pub mod Serving
