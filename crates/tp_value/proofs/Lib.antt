pub mod HasTypeEquations
pub mod TypeNameLookups
pub mod CutsByFirstPart
pub mod BacktrackingScans
pub mod MatchesEquations
pub mod FitsEquations
pub mod WrittenValueTexts
