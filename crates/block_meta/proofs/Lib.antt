pub mod Plain
pub mod Texts
pub mod Lists
pub mod Again
pub mod Rising
pub mod LabelMembers
pub mod Found
pub mod FoundLabels
pub mod FoundSections
pub mod FoundTexts
pub mod AscendingOnce
mod StringSpans
pub mod Sizes
pub mod FewMembers
pub mod SameMetas
pub mod Blocks
pub mod JsonAgain
