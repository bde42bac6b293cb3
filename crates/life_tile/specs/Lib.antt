pub mod TileStores
pub mod Reach
pub mod Standing
