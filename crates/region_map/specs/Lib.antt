pub mod Map
pub mod Bounds
