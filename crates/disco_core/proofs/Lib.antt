mod Asks
mod Expiries
mod KeptTexts
mod KeptVips
mod Loads
mod Marks
mod Renewals
pub mod Runs
mod SameAnswer
mod Ties
