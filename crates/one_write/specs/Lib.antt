pub mod Once
pub mod Walk
