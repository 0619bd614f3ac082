pub mod LastCopy
