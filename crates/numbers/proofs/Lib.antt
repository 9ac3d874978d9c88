mod Complement
pub mod Bytes
