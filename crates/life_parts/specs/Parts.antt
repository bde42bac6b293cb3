pub mod Groups
pub mod Ties
pub mod Parts
pub mod Apart
pub mod Splittings
pub mod Without
pub mod Forks
