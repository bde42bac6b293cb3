pub mod Reach
pub mod Splits
pub mod Seats
pub mod Labels
pub mod Heirs
pub mod Collected
pub mod Split
