pub mod StepLaws
pub mod ReadLaws
pub mod FormLaws
pub mod FrontLaws
pub mod RoundTrip
pub mod MeaningLaws
pub mod PadLaws
