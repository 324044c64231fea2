pub mod FormLemmas
pub mod HashLemmas
pub mod Keys
mod LastOf
pub mod Lasts
mod Lists
pub mod Overlays
pub mod PlaceLemmas
pub mod Restrictions
pub mod Sets
pub mod Slots
pub mod Sorted
pub mod SortedBy
pub mod Untouched
mod Worked
