pub mod NameText
pub mod SixDigits
pub mod KeyLaws
pub mod LawfulKeys
