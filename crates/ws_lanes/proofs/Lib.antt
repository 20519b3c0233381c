pub mod Repeats
pub mod Texts
