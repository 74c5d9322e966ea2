pub mod Grace
