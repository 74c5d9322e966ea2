pub mod Queue
pub mod Ring
pub mod Slot
