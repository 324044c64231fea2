pub mod Behind
pub mod ChunkedBy
pub mod Chunks
pub mod Names
pub mod Pieces
pub mod Places
pub mod Tally
pub mod Vips
