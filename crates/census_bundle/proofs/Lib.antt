pub mod FirstFeed
pub mod Growth
pub mod Lasts
pub mod Joining
pub mod Tallies
pub mod ReadOn
pub mod LineFaults
pub mod Splits
pub mod Sections
mod Rows
pub mod Joined
