-- Laws that belong to no one function.
pub mod Entries
pub mod Stretches
pub mod Loading
pub mod Same
pub mod Firms
pub mod Woods
