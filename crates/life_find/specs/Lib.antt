pub mod Fingerprint
pub mod Quiet
pub mod Search
pub mod Objects
pub mod Soon
