pub mod Joins
pub mod Rows
pub mod Versions
pub mod Rowing
