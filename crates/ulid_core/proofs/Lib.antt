pub mod Tables
pub mod Positional
pub mod UlidLaws
pub mod NumberLoop
pub mod AsciiTexts
