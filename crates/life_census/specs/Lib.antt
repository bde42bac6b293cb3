pub mod Courses
pub mod Counted
pub mod Emitted
pub mod Grown
pub mod OnTheWay
