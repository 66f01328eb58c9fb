pub mod WalkLaws
pub mod HitLaws
pub mod FindLaws
pub mod HeaderLaws
pub mod CountLaws
