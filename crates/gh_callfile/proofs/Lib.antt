mod CallFileLemmas
mod CallLineLemmas
mod CpuLemmas
mod RegisterLemmas
pub mod ProgramLemmas
mod SpellingLemmas
mod WritingLemmas
