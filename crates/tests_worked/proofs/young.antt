pub mod YoungBlock
pub mod YoungReport
pub mod YoungAnswers
