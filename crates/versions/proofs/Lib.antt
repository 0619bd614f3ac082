pub mod Arrays
pub mod Joining
pub mod Versioning
