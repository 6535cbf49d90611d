pub mod PairMerge
pub mod PairMetas
pub mod PairRounds
pub mod PairBucket
pub mod CompactedPair
pub mod PairBlocks
pub mod StoppedCompaction
pub mod MissedInput
