pub mod Places
pub mod Sentences
pub mod Lines
pub mod Reported
pub use Rattle.life_text.specs.Rle
pub use Rattle.texts.specs.Bytes
