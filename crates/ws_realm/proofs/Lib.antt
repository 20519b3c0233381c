pub mod Resting
pub mod Working
