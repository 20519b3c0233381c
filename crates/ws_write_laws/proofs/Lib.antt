pub mod Rejecting
pub mod Lines
pub mod Lined
pub mod Runs
pub mod Piped
pub mod Answered
