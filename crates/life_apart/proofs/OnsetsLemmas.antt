pub mod Pasts
pub mod Sinces
pub mod Counts
pub mod Onsets
