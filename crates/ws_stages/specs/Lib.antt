pub mod Cuts
pub mod State
pub mod Answers
pub mod Shown
pub mod Checks
