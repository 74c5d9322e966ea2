pub mod Booted
pub mod EntryTests
pub mod Giving
pub mod Owing
pub mod Running
pub mod Stepped
pub mod Tables
pub mod Tests
