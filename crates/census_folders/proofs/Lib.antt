pub mod Listings
pub mod Totals
pub mod Reaches
pub mod Walked
pub mod Planted
pub mod Keeps
pub mod Quiet
