pub mod Accept
pub mod Search
pub mod Together
