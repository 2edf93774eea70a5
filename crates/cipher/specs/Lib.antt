pub mod Naming
pub mod Bench
pub mod Loading
