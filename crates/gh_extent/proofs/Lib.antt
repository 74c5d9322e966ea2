pub mod ExtentLemmas
pub mod RunLemmas
pub mod TreeLemmas
