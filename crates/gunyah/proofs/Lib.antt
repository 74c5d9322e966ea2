pub mod InputLemmas
pub mod LawLemmas
pub mod LoadLemmas
pub mod OutcomeLemmas
pub mod StepLemmas
pub mod WordsLemmas
