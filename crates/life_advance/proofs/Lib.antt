pub mod Laters
pub mod WidthLemmas
pub mod LeapsLemmas
