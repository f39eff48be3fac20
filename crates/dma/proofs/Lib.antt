pub mod RangeLaws
pub mod SgeLaws
pub mod RegionLaws
pub mod EntryLaws
pub mod MoveLaws
pub mod UseLaws
