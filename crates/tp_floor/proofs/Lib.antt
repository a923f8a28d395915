pub mod FloorThreadSafety
pub mod CountsKeepFloorRule
