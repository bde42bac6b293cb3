pub mod Pasts
pub mod Since
pub mod Moments
