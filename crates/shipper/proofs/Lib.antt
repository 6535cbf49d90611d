mod Begin
pub mod Steps
pub mod UploadCounts
