pub mod Integers
pub mod Limits
pub mod Search
pub mod Faults
pub mod Laws
pub mod Passing
