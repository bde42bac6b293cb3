pub mod Narrow
pub mod Ranges
