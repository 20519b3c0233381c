pub mod Filled
pub mod Pairs
pub mod Fair
pub mod Handing
pub mod Readings
pub mod Operations
pub mod DefaultHands
pub mod Outcomes
pub mod Rooms
pub mod Whole
mod Worked
