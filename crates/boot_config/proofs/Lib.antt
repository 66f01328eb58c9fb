pub mod RegisterLaws
pub mod BitLaws
pub mod EntryLaws
pub mod AppliedLaws
pub mod AnswerLaws
