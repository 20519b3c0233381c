pub mod Copies
pub mod Preparing
