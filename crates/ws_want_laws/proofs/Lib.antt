pub mod Zone
pub mod Freed
pub mod Results
pub mod Ears
pub mod Bound
pub mod Holding
pub mod Waitings
pub mod Held
pub mod Runs
pub mod Unpressed
pub mod Answering
pub mod Answered
pub mod Unasked
mod Worked
pub mod Starting
pub mod Ending
pub mod Ended
