pub mod Rescue
pub mod Rescuing
pub mod WholeRun
