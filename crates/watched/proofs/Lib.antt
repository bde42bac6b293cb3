pub mod Fronts
pub mod Pieces
pub mod Prefixes
pub mod Telling
pub mod Written
