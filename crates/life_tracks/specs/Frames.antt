pub mod Bearers
pub mod Ties
pub mod Nearby
pub mod Frames
