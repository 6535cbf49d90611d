pub mod ChunkReads
pub mod Taken
pub mod RowCounts
pub mod ChunksRead
pub mod Glimpsed
pub mod RowsFit
