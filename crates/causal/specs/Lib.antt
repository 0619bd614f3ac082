pub mod Tables
pub mod Held
pub mod Holding
pub mod Choosing
pub mod Posting
pub mod Worked
