pub mod Keeping
pub mod Making
pub mod Registering
pub mod Rounding
mod Queueing
