pub mod FieldLaws
pub mod SampleLists
mod Newlines
