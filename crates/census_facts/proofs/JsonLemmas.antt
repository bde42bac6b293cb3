pub mod Floatless
