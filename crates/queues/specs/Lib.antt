pub mod Enqueue
pub mod Live
pub mod Receive
