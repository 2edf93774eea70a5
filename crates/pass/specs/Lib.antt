pub mod Layout
pub mod Reading
pub mod Walking
pub mod Runs
pub mod View
