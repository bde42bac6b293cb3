pub mod Tracks
pub mod Picked
pub mod Decided
pub mod Fates
