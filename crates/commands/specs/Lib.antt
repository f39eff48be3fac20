pub mod Control
pub mod Pages
