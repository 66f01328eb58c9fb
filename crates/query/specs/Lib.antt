pub mod Find
pub mod Covering
pub mod Headers
pub mod OneSection
