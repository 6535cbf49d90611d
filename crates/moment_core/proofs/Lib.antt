pub mod MomentLaws
pub mod PartitionLaws
pub mod SpanLaws
