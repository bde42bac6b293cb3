pub mod Limits
pub mod Squares
pub mod Kinds
