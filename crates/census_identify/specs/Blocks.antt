pub mod Periods
pub mod Whole
pub mod Known
pub mod Things
pub mod Blocks
