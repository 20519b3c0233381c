pub mod AtOnce
pub mod Lengths
