pub mod Copies
pub mod Flow
pub mod Sound
