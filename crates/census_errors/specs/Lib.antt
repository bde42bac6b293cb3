pub mod Sources
pub mod Errors
pub mod Files
pub mod Messages
pub mod Explained
pub mod Cuts
