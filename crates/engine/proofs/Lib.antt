pub mod DirectLaws
pub mod OwedLaws
pub mod RecordLaws
pub mod TurnLaws
