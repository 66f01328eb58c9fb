pub mod AnswerLaws
pub mod JoinLaws
pub mod WriteLaws
