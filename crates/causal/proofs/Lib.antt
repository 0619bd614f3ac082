pub mod Drafting
pub mod Fitting
pub mod Tabling
pub mod Working
