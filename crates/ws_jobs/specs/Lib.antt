pub mod Shorts
pub mod Queue
