pub mod Classes
pub mod Tracks
pub mod Along
pub mod Ways
pub mod Growths
