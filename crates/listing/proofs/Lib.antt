pub mod Walked
pub mod AllLines
