pub mod Form
pub mod Blocks
pub mod Lawful
pub mod ByBytes
pub mod Kinds
pub mod Same
pub mod Xor
