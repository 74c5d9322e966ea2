pub mod CallFile
pub mod Grammar
pub mod Schedule
pub mod Spelling
pub mod VmProgress
pub mod Writing
