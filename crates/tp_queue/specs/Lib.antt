pub mod History
pub mod Answers
pub mod Queues
pub mod Calls
