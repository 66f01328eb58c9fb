pub mod Table
pub mod Form
pub mod Walk
pub mod Meaning
pub mod Valid
pub mod Pads
