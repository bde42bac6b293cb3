pub mod Leasts
pub mod Phases
pub mod Firsts
pub mod Keyed
pub mod Ordered
pub mod LengthsLemmas
