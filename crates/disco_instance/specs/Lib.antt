pub mod Instance
pub mod Members
pub mod Mention
pub mod Metadata
pub mod Moments
pub mod Row
pub mod Since
pub mod Steps
