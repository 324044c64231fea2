pub mod Desks
pub mod Editions
pub mod Keeping
pub mod Logs
pub mod Looks
pub mod MonotoneLists
pub mod Openings
pub mod Seats
