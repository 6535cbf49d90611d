pub mod Limits
pub mod Uploads
pub mod UploadStates
