mod Alterings
pub mod Changes
mod ChunkSearch
mod ChunkSteps
mod ChunkUnder
mod ChunkedBy
mod Commas
mod Entries
mod FirstPiece
mod Nested
mod Numbers
mod Stored
mod Stripped
mod Texts
pub mod VipLaws
