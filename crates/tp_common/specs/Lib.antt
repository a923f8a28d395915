pub mod Label
pub mod Criteria
pub mod Reading
pub mod Cutting
pub mod Watching
