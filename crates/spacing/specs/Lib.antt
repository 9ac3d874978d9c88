pub mod Search
pub mod Spacing
pub mod Limits
pub mod Verdict
pub mod Says
