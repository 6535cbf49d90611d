pub mod ChunkLaws
pub mod SegmentLaws
