pub mod Histories
mod PlaceSteps
mod Readies
mod RecordsByApp
