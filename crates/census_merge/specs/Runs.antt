pub mod Fallen
pub mod Growing
pub mod ObjectsOfAsh
pub mod Settled
