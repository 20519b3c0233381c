pub mod Descriptors
pub mod Keeping
