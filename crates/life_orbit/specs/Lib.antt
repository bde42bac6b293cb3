pub mod Course
pub mod Kept
pub mod Reach
pub mod Hulls
pub mod Clear
pub mod Passing
pub mod Past
