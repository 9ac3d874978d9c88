-- What the contracts of `strength` speak of.
pub mod Fraction
pub mod Shear
pub mod Roots
pub mod Halvings
pub mod Figures
pub mod Working
pub mod Leaves
