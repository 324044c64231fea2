pub mod Changes
pub mod Following
pub mod Follows
pub mod Names
pub mod Objects
pub mod Seen
pub mod Telling
pub mod Texts
