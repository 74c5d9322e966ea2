pub mod References
