pub mod NameLines
pub mod Names
pub mod Read
pub mod Facts
pub mod Lines
pub mod Values
pub mod Forms
pub mod Json
