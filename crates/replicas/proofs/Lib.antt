pub mod Arriving
pub mod Coming
pub mod Putting
