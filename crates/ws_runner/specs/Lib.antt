pub mod Chain
pub mod Meeting
pub mod Place
pub mod Ready
pub mod Trace
pub mod Written
