pub mod Choice
pub mod Word
pub mod Header
pub mod Run
pub mod Refusal
