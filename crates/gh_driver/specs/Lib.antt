pub mod FileRun
pub mod Follows
pub mod Mapped
