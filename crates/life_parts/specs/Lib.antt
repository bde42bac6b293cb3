pub mod Parts
pub mod Independent
