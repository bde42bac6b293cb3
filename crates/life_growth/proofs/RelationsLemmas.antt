pub mod Numbers
pub mod Relations
pub mod Singles
pub mod Products
pub mod Crosses
pub mod Spans
pub mod Signed
