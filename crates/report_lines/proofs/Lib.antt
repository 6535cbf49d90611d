pub mod Breaches
pub mod ReportLists
pub mod ToldLines
pub mod Adding
pub mod Once
