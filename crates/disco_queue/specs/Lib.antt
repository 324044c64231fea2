pub mod Base
pub mod Latest
pub mod Numbers
pub mod Queue
pub mod Seen
pub mod Superseded
pub mod Timed
pub mod Worked
