pub mod Strap
pub mod Manners
