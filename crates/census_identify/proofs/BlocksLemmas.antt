pub mod Joining
pub mod Meant
pub mod Refusing
pub mod Returning
pub mod Sizes
pub mod Wholes
