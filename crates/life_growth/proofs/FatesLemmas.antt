pub mod Classes
pub mod Finding
pub mod Tracks
pub mod Growths
pub mod Lasting
pub mod Fates
