pub mod Options
pub mod Pages
