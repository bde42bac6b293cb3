pub mod Counts
pub mod Kernels
pub mod Sets
