pub mod Listed
pub mod Carried
