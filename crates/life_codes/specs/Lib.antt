pub mod Keys
pub mod Least
pub mod Lengths
