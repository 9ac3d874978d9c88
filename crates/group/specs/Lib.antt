pub mod Rows
pub mod Says
pub mod Order
pub mod Listing
pub mod Share
