pub mod Passing
pub mod Rows
pub mod Uses
pub mod Walks
pub mod Levels
pub mod Shapes
pub mod Commands
pub mod Getters
pub mod Told
mod Examples
