mod Again
pub mod Back
pub mod Documents
pub mod One
pub mod Texts
pub mod ToldLists
pub mod Trees
