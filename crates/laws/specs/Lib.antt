pub mod Versions
pub mod Edges
pub mod Drawn
pub mod JointB
pub mod Entries
