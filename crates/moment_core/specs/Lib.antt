pub mod Limits
pub mod MomentText
pub mod Partitions
pub mod SpanText
pub mod StandardRules
