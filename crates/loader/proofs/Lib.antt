pub mod StoreLaws
pub mod StretchLaws
pub mod RuleLaws
pub mod AnswerLaws
pub mod LoadLaws
pub mod SameLaws
pub mod AcceptLaws
pub mod PadLaws
