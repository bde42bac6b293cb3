pub mod Kinds
pub mod Lines
pub mod Values
pub mod Store
