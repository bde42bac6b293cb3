pub mod Coded
pub mod Packing
pub mod Settling
pub mod Placing
pub mod Paging
