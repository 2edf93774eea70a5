pub mod Trailers
pub mod Cuts
pub mod RoundTrip
pub mod Whole
pub mod Call
pub mod Same
pub mod Answered
