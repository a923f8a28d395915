pub mod Notifiers
pub mod NotifierState
pub mod Standing
