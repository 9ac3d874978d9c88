-- What the contracts of `codes` speak of.
pub mod Tables
