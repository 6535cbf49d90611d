pub mod Folders
pub mod HostBucket
pub mod HostSite
pub mod Listings
pub mod Names
pub mod Places
pub mod Troubles
