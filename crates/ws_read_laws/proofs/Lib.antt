pub mod SourceLooks
pub mod Marks
pub mod Line
pub mod Holding
pub mod Piping
pub mod Told
pub mod Pipes
mod First
mod Goods
mod Transforms
pub mod Runs
pub mod Outcomes
pub mod Waiting
pub mod Asked
pub mod Rising
pub mod Answered
pub mod Ended
