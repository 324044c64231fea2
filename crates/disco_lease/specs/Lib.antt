pub mod Due
pub mod Leases
pub mod Seen
