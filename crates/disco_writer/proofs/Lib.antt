mod AppendedTexts
mod Apps
mod Entries
mod Escapes
mod GroupTexts
mod Joins
pub mod KeptLaws
mod Keyed
pub mod Metadata
mod Plain
mod Pushes
mod Readable
mod Steps
mod Told
mod Walk
mod Written
