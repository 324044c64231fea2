pub mod Answers
pub mod Clients
pub mod Events
pub mod Levels
pub mod Outcomes
pub mod Rounds
pub mod Steps
