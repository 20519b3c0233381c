pub mod Posted
pub mod Stopped
pub mod Late
pub mod Older
mod Worked
