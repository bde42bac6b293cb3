pub mod Fields
pub mod Clear
pub mod Tries
pub mod Ways
pub mod Steps
pub mod Times
pub mod Lattice
