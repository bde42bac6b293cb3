pub mod Sums
pub mod Hex
pub mod Counts
pub mod Patterned
mod Items
mod Held
mod Walked
pub mod Placed
pub mod Ties
pub mod Rising
pub mod Keyed
pub mod Texts
