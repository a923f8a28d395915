pub mod ReadBytesAndRoom
pub mod BytePlacesInText
pub mod FirstLineOfText
pub mod FirstWordOfLine
pub mod WatchedWriterGrowth
