pub mod DeletedBucket
pub mod DeletedUpload
pub mod DeletedBreach
