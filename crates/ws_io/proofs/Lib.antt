pub mod Emptied
pub mod Flow
pub mod HeldBehind
pub mod MemoryCalls
pub mod Telling
pub mod Written
