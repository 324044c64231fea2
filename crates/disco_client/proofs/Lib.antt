pub mod KnownVersions
mod Letters
mod Overlays
mod Shown
mod StatusCounts
