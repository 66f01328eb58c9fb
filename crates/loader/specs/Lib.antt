pub mod Store
pub mod Load
pub mod Judging
