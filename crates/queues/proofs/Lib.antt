pub mod LiveLaws
pub mod ResetLaws
pub mod PollLaws
pub mod ReceiveLaws
pub mod PutLaws
pub mod FlushLaws
pub mod EnqueueLaws
