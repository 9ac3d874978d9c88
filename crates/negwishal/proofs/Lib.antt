-- Laws that belong to no one function.
pub mod Alike
pub mod Firms
