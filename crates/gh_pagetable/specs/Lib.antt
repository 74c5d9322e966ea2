pub mod Entry
pub mod Map
