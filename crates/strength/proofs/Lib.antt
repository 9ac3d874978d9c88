-- Laws that belong to no one function.
pub mod Ratios
pub mod Estimates
pub mod Greatest
pub mod Bearings
pub mod Plain
pub mod Falling
pub mod Sizes
pub mod Capacities
pub mod Room
pub mod Joins
pub mod Floors
pub mod Most
pub mod Starts
pub mod Narrow
