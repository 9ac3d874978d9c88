pub mod Lent
pub mod Numbers
