pub mod Tests
pub mod Tracks
pub mod Growths
