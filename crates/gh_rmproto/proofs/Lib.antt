pub mod EntryLemmas
pub mod WrittenLemmas
