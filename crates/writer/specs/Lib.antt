pub mod Write
pub mod Judging
pub mod Trips
