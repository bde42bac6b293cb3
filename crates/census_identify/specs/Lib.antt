pub mod Hearing
pub mod Telling
pub mod Courses
pub mod Errors
pub mod Identifies
pub mod Blocks
