pub mod Room
pub mod Held
pub mod Values
