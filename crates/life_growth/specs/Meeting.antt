pub mod Sums
pub mod Meeting
pub mod Listed
pub mod Again
pub mod Engines
