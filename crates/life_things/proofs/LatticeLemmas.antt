pub mod Within
pub mod Steady
pub mod Rising
pub mod Lowering
pub mod Gauging
pub mod Planes
pub mod Likeness
pub mod Turning
