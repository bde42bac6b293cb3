pub mod Advanced
pub mod Outcomes
pub mod Statuses
pub mod Reports
mod Kept
mod Cuts
pub mod Gates
mod Asked
mod Named
pub mod Starts
