pub mod Lines
pub mod Returns
pub mod Tracks
pub mod Readings
pub mod Films
pub mod Frames
