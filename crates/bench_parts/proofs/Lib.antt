pub mod ObjectsLemmas
