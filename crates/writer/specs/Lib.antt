pub mod Write
pub mod Told
pub mod Read
pub mod Working
