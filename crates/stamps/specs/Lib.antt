pub mod Keys
pub mod KeySets
pub mod Numbers
pub mod Refusals
pub mod Stamps
pub mod Values
