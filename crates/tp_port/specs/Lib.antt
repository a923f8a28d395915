pub mod Admits
pub mod QueueLine
pub mod Command
pub mod Replay
pub mod Carried
pub mod Faults
pub mod Lending
