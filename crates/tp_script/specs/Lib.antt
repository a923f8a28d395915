pub mod Scopes
pub mod Behaviours
pub mod TestCases
pub mod Instances
pub mod BrokenModules
pub mod Scripts
pub mod Accepted
pub mod Told
