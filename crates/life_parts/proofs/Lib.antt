pub mod PartsLemmas
pub mod IndependentLemmas
