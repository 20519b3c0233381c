pub mod Waits
pub mod WantLaws
pub mod Answers
