pub mod Strings
pub mod Laws
pub mod Worked
