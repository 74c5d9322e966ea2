pub mod CspaceLemmas
pub mod FilledLemmas
