pub mod SyncLaws
pub mod Ascending
mod Begin
pub mod Steps
mod Pages
mod Metas
mod SplitBlocks
