pub mod RecordLaws
pub mod FaultLaws
pub mod OpenLaws
pub mod OnceLaws
pub mod PlaceLaws
