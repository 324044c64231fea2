pub mod Desks
pub mod Publishing
pub mod Replies
pub mod Serving
pub mod Tasks
pub mod Moments
