pub mod Strays
pub mod Totals
