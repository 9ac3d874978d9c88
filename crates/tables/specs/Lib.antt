-- What the contracts of `tables` speak of.
pub mod Tests
pub mod Classes
pub mod Entries
pub mod Pairs
pub mod Table
pub mod Told
