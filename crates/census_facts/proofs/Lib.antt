pub mod Kept
pub mod Split
pub mod Floatless
mod Parts
pub mod JsonLemmas
