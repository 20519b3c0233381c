pub mod Checking
pub mod Copying
pub mod Loading
pub mod Performing
pub mod Running
pub mod Summing
pub mod Telling
pub mod WorkedSummaries
