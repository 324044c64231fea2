pub mod Empty
pub mod Fields
pub mod Groups
pub mod InOrder
pub mod Joined
pub mod Kept
pub mod Named
