pub mod StrapLaws
pub mod MannerLaws
