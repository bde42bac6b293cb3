pub mod Bytes
pub mod Faults
