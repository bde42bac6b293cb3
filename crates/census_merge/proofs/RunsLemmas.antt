pub mod PartCodes
pub mod CountedSets
pub mod Fallen
pub mod CodeCounts
pub mod ObjectsOfAsh
pub mod OneCollection
pub mod Growing
pub mod Settled
