pub mod Answered
pub mod Answers
pub mod Input
pub mod Lines
pub mod Loads
pub mod Steps
pub mod Words
