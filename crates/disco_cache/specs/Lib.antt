pub mod Docs
pub mod Kept
pub mod Payloads
pub mod Shelved
