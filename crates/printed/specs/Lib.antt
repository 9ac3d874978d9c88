-- What the contracts of `printed` speak of.
pub mod Cells
