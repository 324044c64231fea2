pub mod Decoding
pub mod Operations
pub mod Query
