-- What the contracts of `wide_run` speak of.
pub mod Fields
