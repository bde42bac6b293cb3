pub mod Kept
pub mod Numbers
pub mod Packed
pub mod Placed
pub mod Paged
