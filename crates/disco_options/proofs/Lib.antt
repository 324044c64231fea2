mod FirstKinds
mod Given
pub mod Said
