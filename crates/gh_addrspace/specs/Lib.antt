pub mod Rows
pub mod Space
pub mod Spaces
