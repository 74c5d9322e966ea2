pub mod Input
pub mod Outcome
pub mod Status
pub mod Step
pub mod Words
