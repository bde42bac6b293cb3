pub mod CommandLine
pub mod Asking
pub mod Holding
pub mod Refusing
pub mod Limits
