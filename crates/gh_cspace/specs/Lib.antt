pub mod Cspace
pub mod Filled
