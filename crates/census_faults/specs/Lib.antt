pub mod Printed
pub mod Explanations
pub mod Numbers
pub mod Rle
