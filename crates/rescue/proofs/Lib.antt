pub mod WholeRunLaws
pub mod AnswerLaws
pub mod CutLaws
pub mod RescuingProof
