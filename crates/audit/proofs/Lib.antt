pub mod RoundLaws
pub mod RunLaws
