pub mod Ids
pub mod KeyMaps
