pub mod Calls
pub mod Demand3
pub mod Rearranging
pub mod Orders
pub mod Writing
pub mod Finding
pub mod Cards
