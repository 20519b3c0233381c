pub mod Condition
pub mod Joined
pub mod Telling
pub mod Lengths
pub mod AtEnd
pub mod Sends
pub mod Finished
pub mod RunEnds
mod Worked
mod WorkedEnds
