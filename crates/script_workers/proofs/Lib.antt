pub mod HandLists
pub mod HandLaws
pub mod StaffLaws
pub mod PhaseCounts
