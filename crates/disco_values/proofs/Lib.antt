mod Fronts
mod InUpperCase
mod Merged
pub mod Orders
pub mod Parsed
mod Puts
