pub mod Unrejected
pub mod Steady
pub mod Sated
pub mod Closes
pub mod Appended
pub mod Successes
pub mod Reacts
pub mod Hears
pub mod Hearing
pub mod Ending
pub mod Acting
pub mod Shutting
pub mod Wrote
pub mod Counted
pub mod Found
pub mod Whole
mod Worked
