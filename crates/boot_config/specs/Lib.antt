pub mod Registers
pub mod Config
