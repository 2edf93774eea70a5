pub mod Lengths
pub mod Headers
pub mod Steps
pub mod Runs
