pub mod Smallest
pub mod Smallness
