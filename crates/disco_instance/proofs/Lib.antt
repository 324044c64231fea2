pub mod Kept
mod KeyLemmas
pub mod Rows
pub mod SameRow
mod Statuses
