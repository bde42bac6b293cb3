pub mod Groupings
pub mod Held
pub mod Independent
