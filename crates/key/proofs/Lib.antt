pub mod Joining
pub mod Kept
