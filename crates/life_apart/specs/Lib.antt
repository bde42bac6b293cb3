pub mod Alone
pub mod Bounds
pub mod Sets
pub mod Spans
pub mod Onsets
