pub mod ChoiceLaws
pub mod WordLaws
pub mod HeaderLaws
pub mod RunLaws
pub mod RefusalLaws
