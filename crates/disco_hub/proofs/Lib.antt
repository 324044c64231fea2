pub mod Cancels
mod Documents
pub mod InStep
pub mod KeySets
pub mod Levels
mod NewKeys
pub mod Notes
pub mod Pressed
pub mod Rests
pub mod Runs
pub mod Shown
