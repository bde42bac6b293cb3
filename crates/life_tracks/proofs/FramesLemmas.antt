pub mod Roots
pub mod Beside
pub mod Tying
pub mod Near
pub mod Chained
pub mod Held
pub mod Step
pub mod Backwards
