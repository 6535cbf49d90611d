pub mod NextOps
pub mod WorkersAsk
pub mod PhaseCuts
pub mod PhasesOnce
pub mod PhaseSteps
pub mod ToldJournals
