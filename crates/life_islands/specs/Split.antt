pub mod Courses
pub mod Rounds
