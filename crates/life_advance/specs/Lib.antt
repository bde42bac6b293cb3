pub mod Later
pub mod Width
pub mod Leaps
