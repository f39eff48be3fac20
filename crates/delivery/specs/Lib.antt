pub mod Meet
pub mod Deliver
pub mod Settle
pub mod Request
pub mod Run
pub mod Asked
