pub mod BadLine
pub mod BootFile
pub mod Draft
pub mod Grammar
pub mod Reading
