pub mod Lawful
pub mod Lines
pub mod InOrder
pub mod Asking
pub mod Tidy
pub mod Told
pub mod Quiet
pub mod Held
pub mod Finding
pub mod Runs
pub mod Outcomes
pub mod Waiting
pub mod Asked
pub mod Rising
pub mod Answered
pub mod Least
mod Worked
