pub mod Accept
pub mod Commit
pub mod Op
pub mod Records
pub mod Settle
pub mod State
