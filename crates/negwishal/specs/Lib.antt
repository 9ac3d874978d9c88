pub mod Export
pub mod Exchange
pub mod Same
pub mod Working
