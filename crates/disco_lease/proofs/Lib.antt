mod AnyDue
mod CollectedKeys
pub mod Due
mod Entries
mod Ordered
mod Steps
