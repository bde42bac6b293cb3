pub mod Short
pub mod Gauges
pub mod Numbers
pub mod Alike
