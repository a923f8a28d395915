pub mod Verdicts
pub mod ReportWords
pub mod Integers
pub mod LineOpenings
pub mod Lines
pub mod Reports
