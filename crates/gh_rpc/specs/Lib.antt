pub mod Assembler
pub mod Stream
