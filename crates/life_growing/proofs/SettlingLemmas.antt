pub mod Listing
pub mod Making
pub mod Parting
pub mod FitWays
pub mod Walking
pub mod Ways
