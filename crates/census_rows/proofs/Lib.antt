pub mod FieldTexts
pub mod Blanks
pub mod EachKind
pub mod Told
pub mod Texts
pub mod Signs
pub mod StoreLemmas
pub mod Filters
