pub mod BitSets
pub mod Counting
pub mod Stamping
