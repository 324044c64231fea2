mod Cancels
mod KeptNotes
pub mod Publications
mod Shows
pub mod Steps
