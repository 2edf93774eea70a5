pub mod Steps
pub mod Transcripts
pub mod Runs
