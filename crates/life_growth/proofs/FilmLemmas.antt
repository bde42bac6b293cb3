pub mod Splits
pub mod Joined
