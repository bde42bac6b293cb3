pub mod Parted
pub mod Words
pub mod BlocksLemmas
