mod Apps
mod Fronts
mod Histories
mod LastChanges
mod LastInOrder
mod LastNumbers
mod Places
mod Superseded
