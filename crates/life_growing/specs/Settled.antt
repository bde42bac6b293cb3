pub mod Settling
pub mod Things
pub mod Placing
