pub mod ListPartGrowth
pub mod QueueHistoryGrowth
pub mod QueueFieldsMatchHistory
pub mod EventsKeepQueueFields
pub mod QueueStateTransitions
pub mod ReceivingCallAnswers
