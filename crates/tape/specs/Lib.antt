pub mod Tape
pub mod Pieces
pub mod System
pub mod Length
pub mod Audit
pub mod Inside
