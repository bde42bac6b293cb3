pub mod Frames
pub mod Grids
pub mod Words
pub mod WideWords
