pub mod Tests
pub mod Classes
pub mod Parts
pub mod Decided
