pub mod Padding
pub mod Chained
pub mod Counting
