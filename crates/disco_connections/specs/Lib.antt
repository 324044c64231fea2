pub mod Acceptors
pub mod Accepts
pub mod Awaited
pub mod Ending
pub mod Timeouts
