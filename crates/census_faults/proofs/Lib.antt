pub mod Shown
mod Adding
