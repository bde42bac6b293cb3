pub mod Coming
pub mod Members
pub mod Walks
pub mod Walking
