pub mod OnceLaws
pub mod WalkLaws
