pub mod Chaining
pub mod Counting
pub mod Tweaks
pub mod Laws
