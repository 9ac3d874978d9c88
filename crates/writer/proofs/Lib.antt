pub mod Fitting
pub mod Steps
pub mod Made
pub mod Back
pub mod Size
pub mod Round
pub mod Alike
mod Placed
