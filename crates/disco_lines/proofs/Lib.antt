mod Feeds
mod First
mod Fronts
mod Split
pub mod Whole
