-- That a view keeps what was complete, covers each settled upload, and is there when a query asks for it.
pub mod Metas
pub mod SyncEnds
pub mod FewListed
pub mod Undamaged
pub mod RoundsUndamaged
pub mod ViewsThere
pub mod Seen
pub mod OneOpening
pub mod Alone
pub mod Named
pub mod Kept
